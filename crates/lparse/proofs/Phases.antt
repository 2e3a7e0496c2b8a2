-- What the rest of a text can say depends on what is due: so many heads of a choice are left, in a body so many atoms of each part,
-- behind the rules none of a rule comes any more, behind the table no entry, and behind B+ none of it.
use mathlib.Core.Path.{◌≡◌, refl, ap, sym, ◌∙◌}
use mathlib.Core.List.{List, [], ◌∷◌}
use Prim.Native.Nat.{ℕ, suc, ◌+◌, ◌-◌}
use native.Mathlib.Omega.{arith}
use lib.ListN.{length}
use Rattle.std.specs.Prelude.{Option, Some, None, Ok, Err}
use Rattle.meaning.specs.Choice.{ifb}
use Rattle.meaning.proofs.Choice.{b-either, lt-either, eq-either}
use Rattle.imported.specs.declared.TextAtom.{TextAtom}
use Rattle.imported.specs.Text.{TextRule}
use Rattle.lparse.specs.declared.due.Role.{Role}
use Rattle.lparse.specs.declared.due.Role.TheVariants.{Kind, Head, HeadCount, Heads, Literals, Negatives, Negative, Positive, Table, Plus, Minus, Models}
use Rattle.lparse.specs.declared.due.Due.{Due}
use Rattle.lparse.specs.declared.due.Due.TheVariants.{Number, Name, PlusWord, MinusWord, End}
use Rattle.lparse.specs.declared.due.Said.{Said}
use Rattle.lparse.specs.declared.due.Misplaced.TheVariants.{Format, Kind as OtherKind}
use Rattle.lparse.specs.Words.{Word}
use Rattle.lparse.specs.Reading.{Move, body_of, heads_of, on_kind, on_atom, on_listed, on_head_count, on_negatives, on_number, number_in, on_value, on_sign, move_of, signed, whole, Entry, Part, nothing_more, with, with_atom, with_choice, Heard, says, wrong, adding, on_move, heard}

-- m negatives and n positives of the open rule are left, and no head of a choice
pub record Open (m n : ℕ) (heads neg pos : List TextAtom) : Type 0 where
  pub no-head : heads ≡ []
  pub negatives : length neg ≡ m
  pub positives : length pos ≡ n

-- nothing of a rule is left; and no entry of the table; and none of B+; and none of B-
module _ (heads neg pos : List TextAtom) (rules : List TextRule) where
  pub record NoRule : Type 0 where
    pub shut : Open 0 0 heads neg pos
    pub no-rule : rules ≡ []

  module _ (table : List Entry) where
    pub record NoTable : Type 0 where
      pub behind-rules : NoRule
      pub no-entry : table ≡ []

    module _ (plus : List TextAtom) where
      pub record NoPlus : Type 0 where
        pub behind-table : NoTable
        pub no_plus : plus ≡ []

      pub record NoMinus (minus : List TextAtom) : Type 0 where
        pub behind-plus : NoPlus
        pub no_minus : minus ≡ []

unfoldable pub FitsRole : Role → Part → Type 0
FitsRole Kind p = Open 0 0 p.heads p.neg p.pos
FitsRole Head p = Open 0 0 p.heads p.neg p.pos
FitsRole HeadCount p = length p.heads ≡ 0 → ⊥
FitsRole (Heads n) p = length p.heads ≡ suc n
FitsRole Literals p = p.heads ≡ []
FitsRole (Negatives n) p = (p.heads ≡ []) × (length p.neg + length p.pos ≡ n)
FitsRole (Negative m n) p = Open (suc m) n p.heads p.neg p.pos
FitsRole (Positive n) p = Open 0 (suc n) p.heads p.neg p.pos
FitsRole Table p = NoRule p.heads p.neg p.pos p.rules
FitsRole Plus p = NoTable p.heads p.neg p.pos p.rules p.table
FitsRole Minus p = NoPlus p.heads p.neg p.pos p.rules p.table p.plus
FitsRole Models p = NoMinus p.heads p.neg p.pos p.rules p.table p.plus p.minus

unfoldable pub Fits : Due → Part → Type 0
Fits (Number role) p = FitsRole role p
Fits (Name a) p = NoRule p.heads p.neg p.pos p.rules
Fits PlusWord p = NoTable p.heads p.neg p.pos p.rules p.table
Fits MinusWord p = NoPlus p.heads p.neg p.pos p.rules p.table p.plus
Fits End p = NoMinus p.heads p.neg p.pos p.rules p.table p.plus p.minus

pub body_open : (m n : ℕ) (p : Part) → FitsRole (body_of m n) p → Open m n p.heads p.neg p.pos
unfolding body_of FitsRole
body_open m n p =
    eq-either (λ r. FitsRole r p → Open m n p.heads p.neg p.pos) m 0 _ _
    (λ e. eq-either (λ r. FitsRole r p → Open m n p.heads p.neg p.pos) n 0 _ _
    (λ f o. record { no-head = o.no-head; negatives = o.negatives ∙ sym e; positives = o.positives ∙ sym f })
    (λ f o. record { no-head = o.no-head; negatives = o.negatives ∙ sym e; positives = omega (arith, o.positives) }))
    (λ e o. record { no-head = o.no-head; negatives = omega (arith, o.negatives); positives = o.positives })

pub heads-left : (n : ℕ) (p : Part) → FitsRole (heads_of n) p → length p.heads ≡ n
unfolding heads_of FitsRole
heads-left n p =
    eq-either (λ r. FitsRole r p → length p.heads ≡ n) n 0 _ _ (λ e f. ap length f ∙ sym e) (λ e f. omega (arith, f))

-- what is due before a word fits what it says and what fits behind it
unfoldable Back : Word → Due → Move → Type 0
Back w due (Ok (next, said)) = (p : Part) → Fits next p → Fits due (with w said p)
Back w due (Err Format) = Unit {0}
Back w due (Err OtherKind) = Unit {0}

module _ (w : Word) where
  back-number : (role : Role) (n : ℕ) → Back w (Number role) (on_number role n)
  unfolding Back Fits FitsRole on_number on_kind on_atom on_listed on_head_count on_negatives with with_atom with_choice
  back-number Kind n =
      eq-either (Back w (Number Kind)) n 0 _ _ (λ e p f. f.shut) (λ e.
      eq-either (Back w (Number Kind)) n 1 _ _ (λ g p f. f) (λ g.
      eq-either (Back w (Number Kind)) n 3 _ _ (λ i p f. record { no-head = refl; negatives = refl; positives = refl }) (λ i. tt)))
  back-number Head n =
      eq-either (Back w (Number Head)) n 0 _ _ (λ e. tt) (λ e p f. record { no-head = refl; negatives = refl; positives = refl })
  back-number HeadCount n =
      eq-either (Back w (Number HeadCount)) n 0 _ _ (λ e. tt) (λ e p f z. e (sym (heads-left n p f) ∙ z))
  back-number (Heads left) n =
      eq-either (Back w (Number (Heads left))) n 0 _ _ (λ e. tt) (λ e p f. ap suc (heads-left left p f))
  back-number Literals n = λ p f. f.0
  back-number (Negatives l) n =
      lt-either (Back w (Number (Negatives l))) l n _ _ (λ h. tt)
      (λ h p f. let o = body_open n (l - n) p f in (o.no-head, omega (arith, o.negatives, o.positives)))
  back-number (Negative m q) n =
      eq-either (Back w (Number (Negative m q))) n 0 _ _ (λ e. tt)
      (λ e p f. let o = body_open m q p f in
      record { no-head = o.no-head; negatives = ap suc o.negatives; positives = o.positives })
  back-number (Positive q) n =
      eq-either (Back w (Number (Positive q))) n 0 _ _ (λ e. tt)
      (λ e p f. let o = body_open 0 q p f in
      record { no-head = o.no-head; negatives = o.negatives; positives = ap suc o.positives })
  back-number Table n = eq-either (Back w (Number Table)) n 0 _ _ (λ e p f. f.behind-rules) (λ e p f. f)
  back-number Plus n = eq-either (Back w (Number Plus)) n 0 _ _ (λ e p f. f.behind-table) (λ e p f. f)
  back-number Minus n = eq-either (Back w (Number Minus)) n 0 _ _ (λ e p f. f.behind-plus) (λ e p f. f)
  back-number Models n = λ p f. f

  back-value : (role : Role) (d : Option ℕ) → Back w (Number role) (on_value role d)
  unfolding Back on_value
  back-value role (Some n) = back-number role n
  back-value role None = tt

  back : (due : Due) (l : List ℕ) → Back w due (move_of due l)
  unfolding Back Fits FitsRole move_of on_sign with with_atom
  back (Number role) l = back-value role (number_in l)
  back (Name a) l = λ p f. f
  back PlusWord l = b-either (Back w PlusWord) (signed l 43) _ _ (λ e p f. f) (λ e. tt)
  back MinusWord l = b-either (Back w MinusWord) (signed l 45) _ _ (λ e p f. f) (λ e. tt)
  back End l = tt

  -- what was heard of one word more
  fits_said : (due next : Due) (said : Said) (h : Heard) → Back w due (Ok (next, said))
      → ((p : Part) → h ≡ says p → Fits next p) → (p : Part) → adding w said h ≡ says p → Fits due p
  unfolding Back adding
  fits_said due next said (says q) b rest p e =
      let g : with w said q ≡ p = cc in rw (← g) (b q (rest q refl))
  fits_said due next said (wrong i at) b rest p e = let z : ◌≡◌ {A = ℕ} 0 1 = cc in absurd (omega arith)

  fits-move : (due : Due) (m : Move) (k : Due → Heard) → Back w due m
      → ((next : Due) (p : Part) → k next ≡ says p → Fits next p) → (p : Part) → on_move m w k ≡ says p → Fits due p
  unfolding on_move
  fits-move due (Ok (next, said)) k b rest p e = fits_said due next said (k next) b (rest next) p e
  fits-move due (Err Format) k b rest p e = let z : ◌≡◌ {A = ℕ} 0 1 = cc in absurd (omega arith)
  fits-move due (Err OtherKind) k b rest p e = let z : ◌≡◌ {A = ℕ} 0 1 = cc in absurd (omega arith)

fits-end : (len : ℕ) (due : Due) (p : Part) → ifb (whole due) (says nothing_more) (wrong 30 len) ≡ says p → Fits due p
unfolding whole ifb Fits
fits-end len (Number role) p e = let z : ◌≡◌ {A = ℕ} 0 1 = cc in absurd (omega arith)
fits-end len (Name a) p e = let z : ◌≡◌ {A = ℕ} 0 1 = cc in absurd (omega arith)
fits-end len PlusWord p e = let z : ◌≡◌ {A = ℕ} 0 1 = cc in absurd (omega arith)
fits-end len MinusWord p e = let z : ◌≡◌ {A = ℕ} 0 1 = cc in absurd (omega arith)
fits-end len End p e =
    let g : nothing_more ≡ p = cc in
    rw (← g) (record {
      behind-plus = record {
        behind-table = record {
          behind-rules = record {
            shut = record { no-head = refl; negatives = refl; positives = refl };
            no-rule = refl;
          };
          no-entry = refl;
        };
        no_plus = refl;
      };
      no_minus = refl;
    })

pub heard-fits : (len : ℕ) (due : Due) (ws : List Word) (p : Part) → heard len due ws ≡ says p → Fits due p
unfolding heard
heard-fits len due [] p e = fits-end len due p e
heard-fits len due (w ∷ ws) p e =
    fits-move w due (move_of due w.bytes) (λ next. heard len next ws) (back w due w.bytes)
    (λ next q f. heard-fits len next ws q f) p e
