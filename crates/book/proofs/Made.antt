-- A book made rule by rule (specs/Making): one rule more within the limits or past them, and what is known of a draft whose rules kept the
-- limits. Runs of bytes are in Puts, the index in MadeIndex.
use mathlib.Core.Path.{◌≡◌, refl, sym, ◌∙◌, ap}
use mathlib.Core.Logic.{⊎_elim}
use mathlib.Core.Bool.{Bool, true, false, ◌&&◌}
use mathlib.Core.List.{List, [], ◌∷◌, ◌++◌, append_assoc, append-nil}
use mathlib.Core.List.Memᴰ
use Prim.Native.Nat.{ℕ, ◌+◌, ◌*◌, ◌≤◌, ◌<◌}
use native.Mathlib.Omega.{arith}
use lib.Dec.{ltb, leb}
use lib.ListN.{length, take, length-append}
use borrow.Author.Tests.{lt-ltb, ltb-true, le-ltb, le-leb, leb-true, lt-leb}
use Rattle.meaning.specs.declared.AtomNo.{AtomNo}
use Rattle.meaning.specs.Books.{Rule, Book, count}
use Rattle.meaning.proofs.Tests.{both, and_left, and_right, not_first, not-second, true-and-false}
use Rattle.book.specs.Format.{book_bytes}
use Rattle.book.specs.declared.making.Making.{Making}
use Rattle.book.specs.Writing.{Fits, record_bytes, records_bytes}
use Rattle.book.specs.Making.{listed, Small, SmallPart, SmallRule, takes, Puts, Made, whole, passed, Adds}
use Rattle.book.proofs.AtomsFrom.{atoms-from}
use Rattle.book.proofs.ReadBack.{records-short}

-- ---- the limits

pub fits-small : (b : Book) → Fits b → Small b.rules
unfolding count
fits-small b f = record {
  rules = f.rules;
  each = λ r m. let g = f.each r m in record {
    head = omega (arith, g.head, f.atoms);
    pos = record { short = g.pos.short; below = λ a k. omega (arith, g.pos.below a k, f.atoms) };
    neg = record { short = g.neg.short; below = λ a k. omega (arith, g.neg.below a k, f.atoms) };
  };
}

small-none : Small []
small-none = record { rules = omega arith; each = λ r m. absurd (Memᴰ.not-nil m) }

small-front : (l m : List Rule) → Small (l ++ m) → Small l
small-front l m s = record { rules = omega (arith, s.rules, length-append l m); each = λ r k. s.each r (Memᴰ.append_left m k) }

module _ (l : List Rule) (r : Rule) where
  small-more : Small l → length l < 255 → SmallRule r → Small (l ++ (r ∷ []))
  small-more s h f = record {
    rules = simp length-append (omega arith);
    each = λ q m. ⊎_elim (s.each q) (λ k. let e : q ≡ r = Memᴰ.eq_of_singleton k in rw e f) (Memᴰ.append_cases l m);
  }

  small-last : Small (l ++ (r ∷ [])) → (length l < 255) × SmallRule r
  small-last s = (omega (arith, s.rules, length-append l (r ∷ [])), s.each r (Memᴰ.append_right l (Memᴰ.head refl)))

records-small : (l : List Rule) → Small l → length (records_bytes l) ≤ 35 * length l
records-small l s = records-short l (λ r m. ((s.each r m).pos.short, (s.each r m).neg.short))

pub listed_small : (t : List Bool) → length (listed t) ≤ 16 → SmallPart (listed t)
listed_small t h = record { short = h; below = λ a m. let (g, k, e) = atoms-from 0 255 _ a m in omega arith }

-- ---- one rule more

pub records-append : (l m : List Rule) → records_bytes (l ++ m) ≡ records_bytes l ++ records_bytes m
unfolding records_bytes
records-append [] m = refl
records-append (r ∷ l) m = rw (records-append l m) (sym (append_assoc (record_bytes r) (records_bytes l) (records_bytes m)))

pub records-last : (l : List Rule) (r : Rule) → records_bytes (l ++ (r ∷ [])) ≡ records_bytes l ++ record_bytes r
unfolding records_bytes
records-last l r = records-append l (r ∷ []) ∙ ap (λ (t : List ℕ). records_bytes l ++ t) (append-nil (record_bytes r))

pub made_none : (m : Making) (d : List ℕ) → m ≡ record { length = 0; rules = 0; fits = true } → length d ≡ book_bytes → Made [] m d
unfolding records_bytes
made_none m d e h = rw e (whole h refl small-none refl refl refl)

pub adds-nil : (m : Making) (d : List ℕ) → Adds [] m d m d
adds-nil m d = record { behind = λ k g. rw append-nil g }

pub adds_then : {l k : List Rule} {m n o : Making} {a b c : List ℕ} → Adds l m a n b → Adds k n b o c → Adds (l ++ k) m a o c
adds_then {l} {k} v w = record { behind = λ j g. rw append_assoc at (w.behind (j ++ l) (v.behind j g)) }

-- past the limits, whatever comes
pub adds-over : (l : List Rule) (m : Making) (d : List ℕ) → m.fits ≡ false → Adds l m d m d
adds-over l m d e = record { behind = over }
  where
    over : (k : List Rule) → Made k m d → Made (k ++ l) m d
    over k (whole h t s r n b) = true-and-false t e
    over k (passed h t s) = passed h e (λ g. s (small-front k l g))

-- the same draft, with the note that a rule passed the limits
abbrev pub over : Making → Making
over m = record { length = m.length; rules = m.rules; fits = false }

adds-never : (r : Rule) (m : Making) (d : List ℕ)
    → ((k : List Rule) → Small k → m.rules ≡ length k → m.length ≡ length (records_bytes k) → ¬ Small (k ++ (r ∷ [])))
    → Adds (r ∷ []) m d (over m) d
adds-never r m d f = record { behind = never }
  where
    never : (k : List Rule) → Made k m d → Made (k ++ (r ∷ [])) (over m) d
    never k (whole h t s e n b) = passed h refl (f k s e n)
    never k (passed h t s) = passed h refl (λ g. s (small-front k _ g))

-- a rule with an atom beyond the tables, say
pub adds-passed : (r : Rule) (m : Making) (d : List ℕ) → ¬ SmallRule r → Adds (r ∷ []) m d (over m) d
adds-passed r m d f = adds-never r m d (λ k s e n g. f (small-last k r g).1)

-- the test of a rule, one by one
module _ (m : Making) (h p n : ℕ) where
  pub full-rules : 255 ≤ m.rules → false ≡ takes m h p n
  unfolding takes
  full-rules e = sym (not_first _ (le-ltb m.rules 255 e))

  pub full-length : 8891 ≤ m.length → false ≡ takes m h p n
  unfolding takes
  full-length e = sym (not-second (ltb m.rules 255) (not_first _ (le-ltb m.length 8891 e)))

  pub full-head : 255 ≤ h → false ≡ takes m h p n
  unfolding takes
  full-head e = sym (not-second (ltb m.rules 255) (not-second (ltb m.length 8891) (not_first _ (le-ltb h 255 e))))

  pub full-pos : 16 < p → false ≡ takes m h p n
  unfolding takes
  full-pos e = sym (not-second (ltb m.rules 255) (not-second (ltb m.length 8891) (not-second (ltb h 255) (not_first _ (lt-leb p 16 e)))))

  pub room-left : m.rules < 255 → m.length < 8891 → h < 255 → p ≤ 16 → leb n 16 ≡ takes m h p n
  unfolding takes
  room-left a b c d = rw (lt-ltb m.rules 255 a, lt-ltb m.length 8891 b, lt-ltb h 255 c, le-leb p 16 d)

  module _ (e : takes m h p n ≡ true) where
    pub room-rules : m.rules < 255
    unfolding takes
    room-rules = ltb-true _ _ (and_left (ltb m.rules 255) _ e)

    pub room-length : m.length ≤ 8890
    unfolding takes
    room-length = let k = ltb-true m.length 8891 (and_left (ltb m.length 8891) _ (and_right (ltb m.rules 255) _ e)) in omega arith

    room-parts : (ltb h 255 && (leb p 16 && leb n 16)) ≡ true
    unfolding takes
    room-parts = and_right (ltb m.length 8891) _ (and_right (ltb m.rules 255) _ e)

    room-head : h < 255
    room-head = ltb-true _ _ (and_left (ltb h 255) _ room-parts)

    pub room-pos : p ≤ 16
    room-pos = leb-true _ _ (and_left (leb p 16) _ (and_right (ltb h 255) _ room-parts))

    pub room-neg : n ≤ 16
    room-neg = leb-true _ _ (and_right (leb p 16) _ (and_right (ltb h 255) _ room-parts))

module _ (m : Making) (h : AtomNo) (pos neg : List AtomNo) where
  abbrev r : Rule
  r = record { head = h; pos = pos; neg = neg }

  abbrev room : Bool
  room = takes m h.0 (length pos) (length neg)

  pub adds-refused : room ≡ false → (d : List ℕ) → Adds (r ∷ []) m d (over m) d
  unfolding takes
  adds-refused e d = adds-never r m d (λ k s c n g.
      let (few, small) = small-last k r g in
      true-and-false
      (both (lt-ltb m.rules 255 (omega arith)) (both (lt-ltb m.length 8891 (omega (arith, records-small k s)))
      (both (lt-ltb _ _ small.head) (both (le-leb _ _ small.pos.short) (le-leb _ _ small.neg.short)))))
      e)

  pub adds-made : m.fits ≡ true → room ≡ true → SmallPart pos → SmallPart neg → {n : ℕ} {a b : List ℕ} → Puts (record_bytes r) m.length a n b
      → Adds (r ∷ []) m a (record { length = n; rules = m.rules + 1; fits = true }) b
  adds-made f e p q {n} {a} {b} w = record { behind = made }
    where
      small : SmallRule r
      small = record { head = room-head m _ _ _ e; pos = p; neg = q }

      made : (k : List Rule) → Made k m a → Made (k ++ (r ∷ [])) (record { length = n; rules = m.rules + 1; fits = true }) b
      made k (whole g t s c z d) = whole (w.long ∙ g) refl (small-more k r s (omega (arith, room-rules m _ _ _ e)) small)
          (simp length-append (omega arith))
          (rw (records-last k r, length-append) (omega (arith, w.ends)))
          (w.bytes g ∙ rw (records-last k r) (ap (λ (x : List ℕ). x ++ record_bytes r) d))
      made k (passed g t s) = true-and-false f t

-- ---- what is known of a draft whose rules kept the limits

pub record Whole (l : List Rule) (m : Making) (d : List ℕ) : Type 0 where
  pub long : length d ≡ book_bytes
  pub small : Small l
  pub rules : m.rules ≡ length l
  pub size : m.length ≡ length (records_bytes l)
  pub bytes : take m.length d ≡ records_bytes l

pub made-whole : {l : List Rule} {m : Making} {d : List ℕ} → Made l m d → m.fits ≡ true → Whole l m d
made-whole (whole h t s r n b) e = record { long = h; small = s; rules = r; size = n; bytes = b }
made-whole (passed h t s) e = true-and-false e t

pub made-fits : {l : List Rule} {m : Making} {d : List ℕ} → Made l m d → Small l → m.fits ≡ true
made-fits (whole h t s r n b) e = t
made-fits (passed h t s) e = absurd (s e)

pub made-over : {l : List Rule} {m : Making} {d : List ℕ} → Made l m d → m.fits ≡ false → ¬ Small l
made-over (whole h t s r n b) e = true-and-false t e
made-over (passed h t s) e = s

pub whole-size : {l : List Rule} {m : Making} {d : List ℕ} → Whole l m d → m.length ≤ 35 * m.rules
whole-size {l} w = omega (arith, records-small l w.small, w.rules, w.size)
