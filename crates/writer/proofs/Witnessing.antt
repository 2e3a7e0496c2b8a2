-- The witness as it is listed (document 01, "next comes always the lowest on rule that may be listed"): what may be listed, asked by the
-- table of the heads of the listed rules; and the list so far, with what is still to come behind it, is the whole witness.
use mathlib.Core.Path.{◌≡◌, refl, sym, ◌∙◌, ap, fun_ext}
use mathlib.Core.Bool.{Bool, true, false, not, ◌&&◌}
use mathlib.Core.List.{List, [], ◌∷◌, ◌++◌, map}
use Prim.Native.Nat.{ℕ, zero, suc, ◌+◌, ◌-◌, ◌≤◌, ◌<◌}
use native.Mathlib.Nat.{sub-zero}
use native.Mathlib.Omega.{arith}
use lib.ListN.{length, set, replicate, length-append, length-replicate, length-set}
use Rattle.meaning.specs.declared.RuleNo.{RuleNo}
use Rattle.meaning.specs.Sets.{every, some}
use Rattle.meaning.specs.Books.{Rules, atom_no, among, Book, count, rule}
use Rattle.meaning.specs.Colours.{heads}
use Rattle.meaning.specs.Paper.{numbers}
use Rattle.meaning.specs.Written.{of}
use Rattle.meaning.specs.Lowest.{none, one, on_pick, lowest}
use Rattle.meaning.specs.Engine.{less, listable, listing}
use Rattle.meaning.proofs.Tests.{not_first, not-second}
use Rattle.meaning.proofs.Lowest.{lowest-one}
use Rattle.meaning.proofs.Written.{of_none}
use Rattle.book.specs.declared.reader.Shape.{Shape}
use Rattle.book.specs.Format.{book_in, ReadAs}
use Rattle.book.specs.Tables.{atom_table, atoms_in}
use Rattle.book.specs.Writing.{atom_bytes}
use Rattle.book.proofs.Bodies.{every-part}
use Rattle.book.proofs.Asked.{every-table, pos-small}
use Rattle.writer.specs.Draft.{Writes}
use Rattle.writer.specs.Steps.{may_list}
use Rattle.writer.proofs.Drafts.{writes-nil, writes_then}
use Rattle.writer.proofs.Lists.{numbers-append, put-end}

-- ---- one rule

module _ (b : Book) (s : Rules) (l : List Bool) (r : RuleNo) where
  pub list-listed : of l r ≡ true → false ≡ may_list b s l r
  unfolding may_list
  list-listed t = sym (not_first _ (not-second (s r) (ap not t)))

  pub list-other : {g : Bool} → g ≡ s r → g ≡ false → false ≡ may_list b s l r
  unfolding may_list
  list-other e t = sym (not_first _ (not_first _ (sym e ∙ t)))

  list-by : of l r ≡ false → {g : Bool} → g ≡ s r → g ≡ true → {x : Bool}
      → x ≡ every (heads b (of l)) (rule b r).pos → x ≡ may_list b s l r
  unfolding may_list
  list-by t f u x = rw (sym f ∙ u, t) x

-- the positive atoms, asked by the table
module _ (s : List ℕ) (h : Shape) (e : ReadAs s h) (n : h.atoms < 256) (r : RuleNo) (m : r.0 < h.rules) (l headed : List Bool)
    (f : headed ≡ atom_table (heads (book_in s) (of l))) where
  pub list-may : (part : List ℕ) → part ≡ atom_bytes (rule (book_in s) r).pos → of l r ≡ false
      → {g : Bool} (t : Rules) → g ≡ t r → g ≡ true → {x : Bool} → x ≡ every (atoms_in headed) (map atom_no part)
      → x ≡ may_list (book_in s) t l r
  list-may part p q t u v x = list-by (book_in s) t l r q u v
      (x ∙ every-part _ _ _ p ∙ ap (λ z. every (atoms_in z) (rule (book_in s) r).pos) f ∙ every-table _ _ (pos-small s h e n r m))

-- ---- the list as it grows

module _ (b : Book) (s : Rules) (w : List RuleNo) where
  one_more : (r : RuleNo) → one r ≡ lowest b (listable b s w) → (m : ℕ) → m < count b
      → listing b s (count b - m) w ≡ listing b s (count b - (m + 1)) (w ++ (r ∷ []))
  unfolding listing on_pick
  one_more r e m h = let f : count b - m ≡ suc (count b - (m + 1)) = omega arith in rw (f, ← e)

  no_more : none ≡ lowest b (listable b s w) → (n : ℕ) → listing b s n w ≡ w
  unfolding listing on_pick
  no_more e zero = refl
  no_more e (suc n) = rw (← e)

  no-turns : (n m : ℕ) → n ≤ m → listing b s (n - m) w ≡ w
  unfolding listing
  no-turns n m h = let f : n - m ≡ 0 = omega arith in rw f

pub record Listing (b : Book) (s : Rules) (at : ℕ) (before : List ℕ) (m : ℕ) (l : List Bool) (n : ℕ) (out : List ℕ) : Type 0 where
  pub rules : List RuleNo
  pub long : length l ≡ 256
  pub held : of l ≡ among rules
  pub counted : m ≡ length rules
  pub whole : listing b s (count b) [] ≡ listing b s (count b - m) rules
  pub written : Writes (numbers rules) at before n out

module _ (b : Book) (s : Rules) (at : ℕ) (before : List ℕ) where
  pub listing_start : (l : List Bool) → l ≡ replicate 256 false → Listing b s at before 0 l at before
  unfolding some
  listing_start l e = record {
    rules = [];
    long = rw e (length-replicate 256 false);
    held = rw e (fun_ext (of_none 256));
    counted = refl;
    whole = rw sub-zero;
    written = writes-nil at before;
  }

  -- the whole witness is written, and m counts its rules
  abbrev pub Witnessed : ℕ → ℕ → List ℕ → Type 0
  Witnessed m n out = (m ≡ length (listing b s (count b) [])) × Writes (numbers (listing b s (count b) [])) at before n out

  module _ {m n : ℕ} {l : List Bool} {out : List ℕ} (d : Listing b s at before m l n out) where
    -- what the search asks is what the definition asks
    asked : may_list b s l ≡ listable b s d.rules
    unfolding may_list listable
    asked = ap (λ (t : Rules). λ r. less s t r && every (heads b t) (rule b r).pos) d.held

    module _ {r : RuleNo} (e : one r ≡ lowest b (may_list b s l)) where
      pub listed_below : count b ≤ 255 → r.0 < 255
      listed_below h = omega (arith, (lowest-one b _ r (sym e)).0)

      pub listing-more : {j : ℕ} {now : List Bool} {out' : List ℕ} → count b ≤ 255 → now ≡ set l r.0 true → m < count b → Writes (r.0 ∷ []) n out j out'
          → Listing b s at before (m + 1) now j out'
      listing-more h f g w = record {
        rules = d.rules ++ (r ∷ []);
        long = ap length f ∙ length-set l r.0 true ∙ d.long;
        held = rw f (put-end (λ q. false) d.rules l r refl (omega (arith, d.long, listed_below h)) d.held);
        counted = rw length-append (omega (arith, d.counted));
        whole = d.whole ∙ one_more b s d.rules r (e ∙ ap (lowest b) asked) m g;
        written = rw numbers-append (writes_then d.written w);
      }

    -- no rule may be listed, or all are
    pub listing-ends : none ≡ lowest b (may_list b s l) → Witnessed m n out
    listing-ends e = rw (d.whole ∙ no_more b s d.rules (e ∙ ap (lowest b) asked) (count b - m)) (d.counted, d.written)

    pub listing_full : count b ≤ m → Witnessed m n out
    listing_full h = rw (d.whole ∙ no-turns b s d.rules (count b) m h) (d.counted, d.written)
