-- Words as they are written: a name and the words with a meaning of their own have bytes, and no blank and no line's end among them. Such a
-- word stands in a text as it was written, if what follows it parts words.
use mathlib.Core.Path.{◌≡◌, refl, ap, sym, ◌∙◌}
use mathlib.Core.Bool.{Bool, true, false, not}
use mathlib.Core.List.{List, [], ◌∷◌, ◌++◌}
use Prim.{Unit}
use Prim.Native.Nat.{ℕ, suc, ◌<◌, ◌≤◌}
use native.Mathlib.Omega.{arith}
use lib.ListN.{length, get_or, get_or-append}
use borrow.Author.Tests.{not-true, ne_eqb}
use Rattle.meaning.specs.Choice.{ifb, if_lt, if_eq}
use Rattle.meaning.specs.Sets.{every}
use Rattle.meaning.proofs.Choice.{b-yes, b-no, b-either, lt-either, eq_no, eq-either}
use Rattle.meaning.proofs.Tests.{and_left, and_right, absent, true-and-false, apart}
use Rattle.meaning.proofs.Sets.{every-mono}
use Rattle.words.specs.declared.term.Term.{Term}
use Rattle.words.specs.declared.term.Term.TheVariants.{If, And, Not, Unless, Or, Atoms, Remark, Name, Other}
use Rattle.words.specs.Words.{blank, parting, blanks, span}
use Rattle.words.specs.Names.{same_bytes}
use Rattle.words.specs.Terms.{in_range, digit, name_byte, spelled, if_word, and_word, not_word, unless_word, or_word, atoms_word, plain_term, term_of}
use Rattle.words.proofs.Words.{no_part}

abbrev inside : ℕ → Bool
inside x = not (parting x)

pub record Solid (w : List ℕ) : Type 0 where
  pub some : 0 < length w
  pub whole : every inside w ≡ true

-- what holds of each of a list
unfoldable pub All : {A : Type 0} → (A → Type 0) → List A → Type 0
All P [] = Unit {0}
All P (x ∷ l) = P x × All P l

pub all_append : {A : Type 0} (P : A → Type 0) (k l : List A) → All P k → All P l → All P (k ++ l)
unfolding All
all_append P [] l f g = g
all_append P (x ∷ k) l (p, f) g = (p, all_append P k l f g)

-- ---- which words are

pub if-solid : Solid if_word
unfolding every parting blank ifb if_eq
if-solid = record { some = omega arith; whole = refl }

pub and-solid : Solid and_word
unfolding every parting blank ifb if_eq
and-solid = record { some = omega arith; whole = refl }

pub not-solid : Solid not_word
unfolding every parting blank ifb if_eq
not-solid = record { some = omega arith; whole = refl }

pub atoms-solid : Solid atoms_word
unfolding every parting blank ifb if_eq
atoms-solid = record { some = omega arith; whole = refl }

not-blank : (x : ℕ) → (x ≡ 32 → ⊥) → (x ≡ 9 → ⊥) → (x ≡ 13 → ⊥) → blank x ≡ false
unfolding blank
not-blank x f g h = eq_no _ _ _ _ f ∙ eq_no _ _ _ _ g ∙ ne_eqb x 13 h

-- a name's byte is none of the four that part words
name-inside : (x : ℕ) → name_byte x ≡ true → inside x ≡ true
unfolding name_byte in_range ifb if_lt if_eq
name-inside x h = rw (no_part x (not-blank x (other 32 refl) (other 9 refl) (other 13 refl)) (other 10 refl)) refl
  where
    other : (y : ℕ) → name_byte y ≡ false → x ≡ y → ⊥
    other y f e = true-and-false h (rw e f)

abbrev Spells : List ℕ → Term → Type 0
Spells w t = t ≡ Name → spelled w ≡ true

plain-spelled : (w : List ℕ) → plain_term w ≡ Name → spelled w ≡ true
unfolding plain_term
plain-spelled w =
    eq-either (Spells w) (get_or w 0 0) 35 Remark _ (λ e (q : Remark ≡ Name). apart (cc))
    (λ n. b-either (Spells w) (spelled w) Name Other (λ e q. e) (λ e (q : Other ≡ Name). apart (cc)))

name-spelled : (w : List ℕ) → term_of w ≡ Name → spelled w ≡ true
unfolding term_of
name-spelled w =
    b-either (Spells w) (same_bytes w if_word) If _ (λ e (q : If ≡ Name). apart (cc))
    (λ e. b-either (Spells w) (same_bytes w and_word) And _ (λ e (q : And ≡ Name). apart (cc))
    (λ e. b-either (Spells w) (same_bytes w not_word) Not _ (λ e (q : Not ≡ Name). apart (cc))
    (λ e. b-either (Spells w) (same_bytes w unless_word) Unless _ (λ e (q : Unless ≡ Name). apart (cc))
    (λ e. b-either (Spells w) (same_bytes w or_word) Or _ (λ e (q : Or ≡ Name). apart (cc))
    (λ e. b-either (Spells w) (same_bytes w atoms_word) Atoms _ (λ e (q : Atoms ≡ Name). apart (cc)) (λ e. plain-spelled w))))))

abbrev Bytes : List ℕ → Bool → Type 0
Bytes w t = t ≡ true → (0 < length w) × (length w ≤ 64) × (every name_byte w ≡ true)

spelled-bytes : (w : List ℕ) → Bytes w (spelled w)
unfolding spelled
spelled-bytes w =
    eq-either (Bytes w) (length w) 0 false _ (λ e q. true-and-false q refl)
    (λ n. lt-either (Bytes w) 64 (length w) false _ (λ h q. true-and-false q refl)
    (λ h. b-either (Bytes w) (digit (get_or w 0 0)) false _ (λ e q. true-and-false q refl) (λ e q. (omega (arith, n), h, q))))

-- a name has 1 to 64 bytes, each one that names may have
pub name-bytes : (w : List ℕ) → term_of w ≡ Name → (0 < length w) × (length w ≤ 64) × (every name_byte w ≡ true)
name-bytes w e = spelled-bytes w (name-spelled w e)

pub name-solid : (w : List ℕ) → term_of w ≡ Name → Solid w
name-solid w e =
    let (some, few, bytes) = name-bytes w e in
    record { some = some; whole = every-mono name-inside w bytes }

-- ---- in front of what parts words

-- a byte of a word is no blank and no line's end
byte-blank : (x : ℕ) → parting x ≡ false → blank x ≡ false
unfolding parting
byte-blank x e = absent (λ b. b-yes _ _ _ b) e

byte-ends : (x : ℕ) → parting x ≡ false → x ≡ 10 → ⊥
unfolding parting blank ifb if_eq
byte-ends x e f = true-and-false refl (rw f at e)

pub solid-span : (w rest : List ℕ) → every inside w ≡ true → span rest ≡ 0 → span (w ++ rest) ≡ length w
unfolding every span
solid-span [] rest h z = z
solid-span (x ∷ w) rest h z =
    b-no _ _ _ (not-true (parting x) (and_left (inside x) _ h)) ∙ ap suc (solid-span w rest (and_right (inside x) _ h) z)

first-inside : (w : List ℕ) → Solid w → parting (get_or w 0 0) ≡ false
unfolding every
first-inside [] k = absurd (omega (arith, k.some))
first-inside (x ∷ w) k = not-true (parting x) (and_left (inside x) _ k.whole)

pub solid-blanks : (w rest : List ℕ) → Solid w → blanks (w ++ rest) ≡ 0
unfolding blanks
solid-blanks [] rest k = absurd (omega (arith, k.some))
solid-blanks (x ∷ w) rest k = b-no _ _ _ (byte-blank x (first-inside (x ∷ w) k))

pub solid-ends : (w rest : List ℕ) → Solid w → get_or (w ++ rest) 0 0 ≡ 10 → ⊥
solid-ends w rest k e = byte-ends (get_or w 0 0) (first-inside w k) (sym (get_or-append w rest 0 0 k.some) ∙ e)
