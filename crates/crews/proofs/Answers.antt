-- What the log says of two good books that fit together and in the room, and when (document 02, request 9): which of them have an answer
-- set, or 9 exactly where a search needs more tries than its own limit, the first book's first. Each search ends in one of three ways, told
-- from the fixed walk and from answer sets alone, and the two ends decide.
use mathlib.Core.Path.{◌≡◌, refl, sym, ◌∙◌, ap}
use mathlib.Core.Logic.{◌↔◌, ⊎_elim}
use mathlib.Core.List.{List}
use Prim.Native.Nat.{ℕ, ◌≤◌, ◌<◌}
use native.Mathlib.Omega.{arith}
use lib.ListN.{length}
use Rattle.meaning.specs.Books.{Book, count}
use Rattle.meaning.specs.Joined.{SomeAnswer}
use Rattle.meaning.specs.Choice.{ifb}
use Rattle.meaning.specs.Told.{Told, success, stopped, Answered}
use Rattle.meaning.proofs.Tests.{lt-or-le}
use Rattle.book.specs.Writing.{Fits}
use Rattle.meaning.specs.Written.{nothing}
use Rattle.walk.specs.Events.{events}
use Rattle.walk.specs.Tries.{Needs, to-reading, to_end}
use Rattle.walk.specs.declared.tally.Halt.{Halt}
use Rattle.walk.specs.declared.tally.Halt.TheVariants.{Going, Full, Limit}
use Rattle.walk.proofs.Needs.{kth-or-fewer, needs-one}
use Rattle.walk.proofs.FirstWalk.{kth-answer, fewer-none, first-limited, first-none, first_found}
use Rattle.crews.specs.Join.{joined_bytes}
use Rattle.crews.specs.Log.{Entry, searched, passed, found, entry_of, after_search, log_laid, log_in}
use Rattle.crews.specs.Rows.{Fitting, Within, Says, both-have, first-has-none, second-has-none, neither-has}
use Rattle.crews.specs.Rows.{Logs, within_both, first_passes, second-passes}
use Rattle.crews.proofs.Laying.{laid-fitting}

-- ---- how one search ends

-- the three ways, told from the fixed walk and from answer sets alone
pub data Ends (b : Book) (limit : ℕ) : Halt → Type 0 where
  found-one : SomeAnswer b → {n : ℕ} → Needs b (events b nothing) 1 n → n ≤ limit → Ends b limit Full
  found_none : (SomeAnswer b → ⊥) → {n : ℕ} → Needs b (events b nothing) 1 n → n ≤ limit → Ends b limit Going
  passes : {n : ℕ} → Needs b (events b nothing) 1 n → limit < n → Ends b limit Limit

pub search-ends : (b : Book) (limit : ℕ) → b.atoms ≤ 255 → count b ≤ 255 → Ends b limit (searched b limit)
search-ends b limit few rules = ⊎_elim
    (λ (t, x, c). ⊎_elim
    (λ h. rw (first-limited b limit few (to-reading c) h) (passes (to-reading c) h))
    (λ h. rw (first_found b limit few c h).0 (found-one (x, kth-answer b rules c) (to-reading c) h)) (lt-or-le limit t))
    (λ g. ⊎_elim
    (λ h. rw (first-limited b limit few (to_end g) h) (passes (to_end g) h))
    (λ h. rw (first-none b limit few g h).0 (found_none (λ (x, answer). fewer-none b rules g x answer) (to_end g) h))
    (lt-or-le limit _))
    (kth-or-fewer b (events b nothing) 1 (omega arith))

module _ (b : Book) (limit : ℕ) (few : b.atoms ≤ 255) (rules : count b ≤ 255) where
  ends : Ends b limit (searched b limit)
  ends = search-ends b limit few rules

  ends-full : SomeAnswer b → Within b limit → searched b limit ≡ Full
  ends-full a (n, m, h) = go ends
    where
      go : {h : Halt} → Ends b limit h → h ≡ Full
      go (found-one x y z) = refl
      go (found_none x y z) = absurd (x a)
      go (passes y z) = absurd (omega (arith, needs-one b m y))

  ends-going : (SomeAnswer b → ⊥) → Within b limit → searched b limit ≡ Going
  ends-going a (n, m, h) = go ends
    where
      go : {h : Halt} → Ends b limit h → h ≡ Going
      go (found-one x y z) = absurd (a x)
      go (found_none x y z) = refl
      go (passes y z) = absurd (omega (arith, needs-one b m y))

  ends-limit : {n : ℕ} → Needs b (events b nothing) 1 n → limit < n → searched b limit ≡ Limit
  ends-limit m h = go ends
    where
      go : {h : Halt} → Ends b limit h → h ≡ Limit
      go (found-one x y z) = absurd (omega (arith, needs-one b m y))
      go (found_none x y z) = absurd (omega (arith, needs-one b m y))
      go (passes y z) = refl

-- ---- what the log says, and when

module _ (b c : Book) (f : Fits b) (g : Fits c) (limit other : ℕ) (out : List ℕ) (fitting : Fitting b c (length out)) where
  abbrev n : ℕ
  n = length (joined_bytes b c)

  pub log-searched : log_in b c limit other out ≡ after_search (searched b limit) (searched c other) n b c limit other out
  unfolding log_laid
  log-searched = rw (laid-fitting b c (length out) fitting)

  says : {h k : Halt} → Ends b limit h → Ends c other k → Logs b c limit other n (after_search h k n b c limit other out).told
  unfolding after_search passed found entry_of ifb
  says (passes p l) k = first_passes (_, p, l)
  says (found-one x p l) (passes q m) = second-passes (_, p, l) (_, q, m)
  says (found_none x p l) (passes q m) = second-passes (_, p, l) (_, q, m)
  says (found-one x p l) (found-one y q m) = within_both (_, p, l) (_, q, m) (both-have x y)
  says (found_none x p l) (found-one y q m) = within_both (_, p, l) (_, q, m) (first-has-none x y)
  says (found-one x p l) (found_none y q m) = within_both (_, p, l) (_, q, m) (second-has-none x y)
  says (found_none x p l) (found_none y q m) = within_both (_, p, l) (_, q, m) (neither-has x y)

  told-by : {h k : Halt} → searched b limit ≡ h → searched c other ≡ k
      → (log_in b c limit other out).told ≡ (after_search h k n b c limit other out).told
  told-by p q = ap (λ (a : Answered Entry). a.told) log-searched
      ∙ (λ i. (after_search (p i) (q i) n b c limit other out).told)

  told-says : {e : Entry} → Within b limit → Within c other → Says b c n e → (log_in b c limit other out).told ≡ success e
  unfolding after_search passed found entry_of ifb
  told-says p q (both-have x y) = told-by (ends-full b limit f.atoms f.rules x p) (ends-full c other g.atoms g.rules y q)
  told-says p q (first-has-none x y) = told-by (ends-going b limit f.atoms f.rules x p) (ends-full c other g.atoms g.rules y q)
  told-says p q (second-has-none x y) = told-by (ends-full b limit f.atoms f.rules x p) (ends-going c other g.atoms g.rules y q)
  told-says p q (neither-has x y) = told-by (ends-going b limit f.atoms f.rules x p) (ends-going c other g.atoms g.rules y q)

  told-if : {t : Told Entry} → Logs b c limit other n t → (log_in b c limit other out).told ≡ t
  unfolding after_search passed found entry_of ifb
  told-if (within_both p q s) = told-says p q s
  told-if (first_passes (m, p, l)) = told-by (ends-limit b limit f.atoms f.rules p l) refl
  told-if (second-passes (m, p, l) (j, q, k)) =
      second-limit (ends-limit c other g.atoms g.rules q k) (ends b limit f.atoms f.rules) refl
    where
      second-limit : searched c other ≡ Limit → {h : Halt} → Ends b limit h → searched b limit ≡ h
          → (log_in b c limit other out).told ≡ stopped other
      second-limit z (found-one x y w) e = told-by e z
      second-limit z (found_none x y w) e = told-by e z
      second-limit z (passes y w) e = absurd (omega (arith, needs-one b y p))

  -- the log's answer, exactly
  pub log-exactly : (t : Told Entry) → ((log_in b c limit other out).told ≡ t) ↔ Logs b c limit other n t
  log-exactly t = (
    λ e. rw (sym (ap (λ (a : Answered Entry). a.told) log-searched) ∙ e)
        at (says (ends b limit f.atoms f.rules) (ends c other g.atoms g.rules)),
    told-if,
  )
