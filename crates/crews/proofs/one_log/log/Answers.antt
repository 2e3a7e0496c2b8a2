-- The books' refusals, the first book's before the second's, and then what is told of two good books.
use mathlib.Core.Path.{◌≡◌}
use Rattle.std.proofs.lemmas.Result.{err_from_is_err_and}
use Rattle.crews.specs.declared.answer.Unlogged.TheVariants.{First, Second}
use Rattle.crews.specs.Log.{log_in}
use Rattle.crews.proofs.Reading.{mapped-ok, mapped-err, first-refused, second-refused, both_read}
use Rattle.crews.proofs.one_log.log.Goals as goal

pub returns-in_err-one : goal.returns-in_err-one
returns-in_err-one c =
    let a = c.args in
    let p = err_from_is_err_and c.from_residual.result c.from_residual.ensures.1 in
    let q = mapped-err (λ f d. d ≡ First f) c.read.result c.map_err.ensures.cases c.in_err-one.was in
    rw (p.1, p.2, q.2)
    (first-refused a.out.now (λ b e. log_in b e a.first_limit a.second_limit a.out.now) a.first.now a.second.now q.0 (rw q.1 at c.read.ensures.tells))

pub returns-in_err-two : goal.returns-in_err-two
returns-in_err-two c =
    let a = c.args in
    let one = mapped-ok (λ f d. d ≡ First f) c.read.result c.map_err.ensures.cases c.in_ok-one.was in
    let p = err_from_is_err_and c.from_residual-in_err-two.result c.from_residual-in_err-two.ensures.1 in
    let q = mapped-err (λ f d. d ≡ Second f) c.read-2.result c.map_err-2.ensures.cases c.in_err-two.was in
    rw (p.1, p.2, q.2, ← (rw one at c.read.ensures.bytes))
    (second-refused a.out.now (λ b e. log_in b e a.first_limit a.second_limit a.out.now) _ a.second.now c.in_ok-one.one.read_as q.0 (rw q.1 at c.read-2.ensures.tells))

pub returns : goal.returns
returns c =
    let a = c.args in
    let one = mapped-ok (λ f d. d ≡ First f) c.read.result c.map_err.ensures.cases c.in_ok-one.was in
    let two = mapped-ok (λ f d. d ≡ Second f) c.read-2.result c.map_err-2.ensures.cases c.in_ok-two.was in
    rw (← (rw one at c.read.ensures.bytes), ← (rw two at c.read-2.ensures.bytes))
    (both_read a.out.now (λ b e. log_in b e a.first_limit a.second_limit a.out.now) _ _ c.in_ok-one.one.read_as c.in_ok-two.two.read_as c.log_good.ensures)
