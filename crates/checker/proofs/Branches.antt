-- A branch: the function of specs/Branches and the relation Branch of the meaning agree, both ways; where a branch can end or be refused;
-- and that more steps than bytes left change nothing. Each by recursion on the steps allowed, with what proofs/Steps says of one step.
-- Document 01, "The paper"; blueprint, K5.
use mathlib.Core.Path.{◌≡◌, refl, sym, ◌∙◌, ap}
use mathlib.Core.Logic.{◌⊎◌, inl, inr, ⊎_elim}
use mathlib.Core.Bool.{true}
use mathlib.Core.List.{List, [], ◌∷◌, ◌++◌, map, append_assoc, Memᴰ}
use Prim.Native.Nat.{ℕ, zero, suc, ◌+◌, ◌-◌, ◌≤◌, ◌<◌}
use native.Mathlib.Nat.{not-suc-le-zero}
use native.Mathlib.Omega.{arith}
use lib.ListN.{length, get_or, drop, length-append, length-map, take-append-drop}
use Rattle.meaning.specs.declared.RuleNo.{RuleNo}
use Rattle.meaning.specs.Sets.{◌∈◌, ascending}
use Rattle.meaning.specs.Books.{rule_no, among, Book, count, InBook}
use Rattle.meaning.specs.Colours.{Pair, on_side, off_side, put}
use Rattle.meaning.specs.declared.kind.Claim.{Claim}
use Rattle.meaning.specs.Paper.{numbers, unfounded, code_unfounded, Branch, step-41, step-42, step-55, step-53, step-45}
use Rattle.book.specs.Format.{part_from}
use Rattle.book.proofs.Slices.{part_length}
use Rattle.checker.specs.Steps.{Stepped, goes, parts, ends, fails, step_of}
use Rattle.checker.specs.Branches.{Walked, done, wrong_at, and_then, after_step, branch_of}
use Rattle.checker.specs.Rows.{rule_at, list_at, form-41, form-42, form-55, form-53, form-45}
use Rattle.checker.proofs.Bytes.{rules-back, numbers-back, number-member, member-rule, list_length, list_read}
use Rattle.checker.proofs.Bytes.{part_none, part-one, part-two, part-split, part-listed, read_one, read-two, read_past}
use Rattle.checker.proofs.Steps.{StepIs, malformed, unheld, held, formed-further, fails-number, is-step, step_is}

pub not_done : {A : Type 0} {i at m : ℕ} → wrong_at i at ≡ done m → A
not_done e = let z : ◌≡◌ {A = ℕ} 0 1 = cc in absurd (omega arith)

same_end : {m n : ℕ} → done m ≡ done n → m ≡ n
same_end e = cc

pub same-refusal : {i j m n : ℕ} → wrong_at i m ≡ wrong_at j n → (i ≡ j) × (m ≡ n)
same-refusal e = (cc, cc)

then-done : (w : Walked) (f : ℕ → Walked) (m : ℕ) → and_then w f ≡ done m → (n : ℕ) × (w ≡ done n) × (f n ≡ done m)
unfolding and_then
then-done (done n) f m e = (n, refl, e)
then-done (wrong_at i at) f m e = not_done e

pub then-refused : (w : Walked) (f : ℕ → Walked) {i m : ℕ} → and_then w f ≡ wrong_at i m
    → (w ≡ wrong_at i m) ⊎ ((n : ℕ) × (w ≡ done n) × (f n ≡ wrong_at i m))
unfolding and_then
then-refused (done n) f e = inr (n, refl, e)
then-refused (wrong_at i at) f e = inl e

-- a refusal of a step between `at` and the witness start
pub record RefusedIn (at from i m : ℕ) : Type 0 where
  pub number : (i ≡ 24) ⊎ (i ≡ 25)
  pub above : at ≤ m
  pub below : m ≤ from

refused-above : {at next from i m : ℕ} → at ≤ next → RefusedIn next from i m → RefusedIn at from i m
refused-above h p = record { number = p.number; above = omega arith; below = p.below }

module _ (b : Book) (k : Claim) (s : List ℕ) (from : ℕ) where
  -- ---- where a branch ends, and where it is refused

  pub done-between : (f at : ℕ) (c : Pair) (m : ℕ) → branch_of f b k s from at c ≡ done m → (at < m) × (m ≤ from)
  unfolding branch_of after_step
  done-between zero at c m e = not_done e
  done-between (suc f) at c m e = after (step_of b k s from at c) (step_is b k s from at c refl) e (λ next d n. done-between f next d n)
    where
      after : (x : Stepped) → StepIs b k s from at c x → after_step at c x (branch_of f b k s from) ≡ done m
          → ((next : ℕ) (d : Pair) (n : ℕ) → branch_of f b k s from next d ≡ done n → (next < n) × (n ≤ from)) → (at < m) × (m ≤ from)
      after (goes next d) (held p q) e g = omega (arith, formed-further b k s from at c p, g _ _ _ e)
      after (parts next r) (held p q) e g =
          let (n, u, v) = then-done _ _ _ e in omega (arith, formed-further b k s from at c p, g _ _ _ u, g _ _ _ v)
      after (ends next) (held p q) e g = omega (arith, formed-further b k s from at c p, same_end e)
      after (fails i) p e g = not_done e

  pub refused-between : (f at : ℕ) (c : Pair) {i m : ℕ} → at ≤ from → branch_of f b k s from at c ≡ wrong_at i m → RefusedIn at from i m
  unfolding branch_of after_step
  refused-between zero at c h e =
      let (p, q) = same-refusal e in record { number = inl (sym p); above = omega arith; below = omega arith }
  refused-between (suc f) at c {i} {m} h e =
      after (step_of b k s from at c) (step_is b k s from at c refl) e (λ next d. refused-between f next d)
    where
      after : (x : Stepped) → StepIs b k s from at c x → after_step at c x (branch_of f b k s from) ≡ wrong_at i m
          → ((next : ℕ) (d : Pair) → next ≤ from → branch_of f b k s from next d ≡ wrong_at i m → RefusedIn next from i m)
          → RefusedIn at from i m
      after (goes next d) (held p q) e g =
          let (u, v) = formed-further b k s from at c p in refused-above (omega arith) (g next d v e)
      after (parts next r) (held p q) e g =
          let (u, v) = formed-further b k s from at c p in
          ⊎_elim (λ w. refused-above (omega arith) (g next _ v w))
          (λ (n, w, z). let (y, o) = done-between f _ _ _ w in refused-above (omega arith) (g n _ o z)) (then-refused _ _ e)
      after (ends next) p e g = not_done (sym e)
      after (fails j) p e g =
          let (u, v) = same-refusal e in
          record { number = rw u at (fails-number b k s from at c p); above = omega arith; below = omega arith }

  -- ---- more steps than bytes left change nothing

  pub branch-enough : (f g at : ℕ) (c : Pair) → from - at < f → from - at < g → branch_of f b k s from at c ≡ branch_of g b k s from at c
  unfolding branch_of after_step and_then
  branch-enough zero g at c h j = absurd (not-suc-le-zero h)
  branch-enough (suc f) zero at c h j = absurd (not-suc-le-zero j)
  branch-enough (suc f) (suc g) at c h j =
      after (step_of b k s from at c) (step_is b k s from at c refl) (λ next d. branch-enough f g next d)
    where
      after : (x : Stepped) → StepIs b k s from at c x
          → ((next : ℕ) (d : Pair) → from - next < f → from - next < g → branch_of f b k s from next d ≡ branch_of g b k s from next d)
          → after_step at c x (branch_of f b k s from) ≡ after_step at c x (branch_of g b k s from)
      after (goes next d) (held p q) e = let (u, v) = formed-further b k s from at c p in e next d (omega arith) (omega arith)
      after (parts next r) (held p q) e =
          let (u, v) = formed-further b k s from at c p in
          rw (e next (put on_side (r ∷ []) c) (omega arith) (omega arith))
          (rest u v (branch_of g b k s from next (put on_side (r ∷ []) c)) refl)
        where
          rest : at < next → next ≤ from → (w : Walked) → branch_of g b k s from next (put on_side (r ∷ []) c) ≡ w
              → and_then w (λ m. branch_of f b k s from m (put off_side (r ∷ []) c))
              ≡ and_then w (λ m. branch_of g b k s from m (put off_side (r ∷ []) c))
          rest u v (done m) y = let (z, o) = done-between g _ _ _ y in e m _ (omega arith) (omega arith)
          rest u v (wrong_at i m) y = refl
      after (ends next) p e = refl
      after (fails i) p e = refl

  -- ---- the function ends where the relation does

  module _ (whole : from ≤ length s) where
    pub done-branch : (f at : ℕ) (c : Pair) (m : ℕ) → branch_of f b k s from at c ≡ done m → Branch b k c (part_from s m at)
    unfolding branch_of after_step
    done-branch zero at c m e = not_done e
    done-branch (suc f) at c m e = after (step_of b k s from at c) (step_is b k s from at c refl) e (λ next d n. done-branch f next d n)
      where
        -- a code and a rule, and the rest of the branch
        from-two : {code : ℕ} → get_or s at 0 ≡ code → Branch b k c (code ∷ (get_or s (at + 1) 0 ∷ part_from s m (at + 2)))
            → (at + 2 < m) × (m ≤ from) → Branch b k c (part_from s m at)
        from-two p x (u, v) = rw (part-two s m at (omega arith) (omega arith), p) x

        after : (x : Stepped) → StepIs b k s from at c x → after_step at c x (branch_of f b k s from) ≡ done m
            → ((next : ℕ) (d : Pair) (n : ℕ) → branch_of f b k s from next d ≡ done n → Branch b k d (part_from s n next))
            → Branch b k c (part_from s m at)
        after x (malformed p) e g = not_done e
        after x (unheld p q) e g = not_done e
        after x (held (form-41 p h i) q) e g = from-two p (step-41 (rule_at s at) i q (g _ _ _ e)) (done-between f _ _ _ e)
        after x (held (form-42 p h i) q) e g = from-two p (step-42 (rule_at s at) i q (g _ _ _ e)) (done-between f _ _ _ e)
        after x (held (form-55 p h i l j) q) e g =
            let (u, v) = done-between f _ _ _ e in
            let w = map rule_no (list_at s at) in
            let n : 0 < length w = omega (arith, list_length s at (omega arith)) in
            let o : ascending (numbers w) ≡ true = rw (numbers-back (list_at s at)) l in
            rw (part-listed s at m (omega arith) (omega arith), p)
            (step-55 w n o (λ r y. j r.0 (number-member (list_at s at) r y)) q (g _ _ _ e))
        after x (held (form-53 p h i) q) e g =
            let (n, u, v) = then-done _ _ _ e in
            let (h₁, k₁) = done-between f _ _ _ u in
            let (h₂, k₂) = done-between f _ _ _ v in
            from-two p (rw (part-split s m (at + 2) n (omega arith) (omega arith)) (step-53 (rule_at s at) i q (g _ _ _ u) (g _ _ _ v)))
            (omega arith, k₂)
        after x (held (form-45 p h) q) e g =
            rw (← same_end e, part-one s (at + 1) at (omega arith) (omega arith), p, part_none s (at + 1)) (step-45 q)

  -- ---- and the relation ends where the function does

  pub turn : (f at : ℕ) (c : Pair) {x : Stepped} → step_of b k s from at c ≡ x
      → branch_of (suc f) b k s from at c ≡ after_step at c x (branch_of f b k s from)
  unfolding branch_of
  turn f at c e = rw e

  goes-done : (f at : ℕ) (c : Pair) {next m n : ℕ} {d : Pair} → step_of b k s from at c ≡ goes next d → branch_of f b k s from next d ≡ done m
      → m ≡ n → branch_of (suc f) b k s from at c ≡ done n
  unfolding after_step
  goes-done f at c e p q = turn f at c e ∙ p ∙ ap done q

  drops : (at : ℕ) (c : Pair) (w : List RuleNo) → get_or s at 0 ≡ code_unfounded → get_or s (at + 1) 0 ≡ length w → list_at s at ≡ numbers w
      → at + 2 + length w ≤ from → 0 < length w → ascending (numbers w) ≡ true → ((r : RuleNo) → r ∈ among w → InBook b r)
      → unfounded b c.off w ≡ true → step_of b k s from at c ≡ goes (at + 2 + length w) (put off_side w c)
  drops at c w x y z h n a i m =
      rw (v, y) at (is-step b k s from at c (held (form-55 x (rw y h) (rw y n) (rw z a) below) (rw v m)))
    where
      v : map rule_no (list_at s at) ≡ w
      v = ap (map rule_no) z ∙ rules-back w

      below : (n : ℕ) → Memᴰ n (list_at s at) → n < count b
      below n q = i (rule_no n) (rw (rules-back w) at (member-rule (numbers w) n (rw z at q)))

  pub branch-done : {c : Pair} {l : List ℕ} → Branch b k c l → (at : ℕ) (rest : List ℕ) → drop at s ≡ l ++ rest → at + length l ≤ from
      → (f : ℕ) → from - at < f → branch_of f b k s from at c ≡ done (at + length l)
  unfolding after_step and_then
  branch-done p at rest e h zero g = absurd (not-suc-le-zero g)
  branch-done (step-41 {c = c} r i m p) at rest e h (suc f) g =
      let (x, y, d) = read-two s at e in
      goes-done f at c (rw y at (is-step b k s from at c (held (form-41 x (omega arith) (rw y i)) (rw y m))))
      (branch-done {c = put on_side (r ∷ []) c} p (at + 2) rest d (omega arith) f (omega arith)) (omega arith)
  branch-done (step-42 {c = c} r i m p) at rest e h (suc f) g =
      let (x, y, d) = read-two s at e in
      goes-done f at c (rw y at (is-step b k s from at c (held (form-42 x (omega arith) (rw y i)) (rw y m))))
      (branch-done {c = put off_side (r ∷ []) c} p (at + 2) rest d (omega arith) f (omega arith)) (omega arith)
  branch-done (step-55 {c = c} {l = l} w n a i m p) at rest e h (suc f) g =
      let (x, y, z, d) = list_read s at w (e ∙ ap (λ (r : List ℕ). code_unfounded ∷ (length w ∷ r)) (append_assoc (numbers w) l rest)) in
      let v : length (numbers w ++ l) ≡ length w + length l = length-append (numbers w) l ∙ rw (length-map w (λ r. r.0)) in
      goes-done f at c (drops at c w x y z (omega arith) n a i m)
      (branch-done {c = put off_side w c} p (at + 2 + length w) rest d (omega arith) f (omega arith)) (omega arith)
  branch-done (step-53 {c = c} {l = l} {m = m'} r i m p q) at rest e h (suc f) g =
      let (x, y, d₁) = read-two s at e in
      let d₂ = d₁ ∙ append_assoc l m' rest in
      let u : at + 2 ≤ from = omega arith in
      let v : length (l ++ m') ≡ length l + length m' = length-append l m' in
      let n : at + 2 + length l + length m' ≡ at + suc (suc (length (l ++ m'))) = omega arith in
      turn f at c (rw y at (is-step b k s from at c (held (form-53 x u (rw y i)) (rw y m))))
      ∙ rw (branch-done {c = put on_side (r ∷ []) c} p (at + 2) (m' ++ rest) d₂ (omega arith) f (omega arith))
      (branch-done {c = put off_side (r ∷ []) c} q (at + 2 + length l) rest (read_past s (at + 2) l d₂) (omega arith) f (omega arith))
      ∙ ap done n
  branch-done (step-45 {c = c} m) at rest e h (suc f) g =
      turn f at c (is-step b k s from at c (held (form-45 (read_one s at e).0 (omega arith)) m))

  pub part-done : from ≤ length s → {c : Pair} (at m : ℕ) → at ≤ m → m ≤ from → Branch b k c (part_from s m at) → (f : ℕ) → from - at < f
      → branch_of f b k s from at c ≡ done m
  part-done whole at m h j p f g =
      let n : length (part_from s m at) ≡ m - at = part_length s m at h (omega arith) in
      let e : at + length (part_from s m at) ≡ m = omega arith in
      branch-done p at (drop (m - at) (drop at s)) (sym (take-append-drop (m - at) (drop at s))) (omega arith) f g ∙ ap done e
