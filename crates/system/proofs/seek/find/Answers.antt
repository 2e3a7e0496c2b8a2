-- What the search for the byte finds in the part is what the definition says of it.
use Rattle.std.proofs.Common.{◌≡◌, ◌-◌, length, take, drop, arith, sym, ◌∙◌, length-take, length-drop}
use Rattle.system.proofs.Places.{part, found, nowhere}
use Rattle.system.proofs.seek.find.Goals as goal

pub returns-in-Some-clause-value : goal.returns-in-Some-clause-value
returns-in-Some-clause-value c =
    rw (← part c.args.from c.args.to c.args.bytes.now c.requires.0)
    (omega (arith, found c.args.byte _ c.in-Some.i (sym c.place_of.ensures ∙ c.in-Some.is)))

pub returns-in-None-clause-value : goal.returns-in-None-clause-value
returns-in-None-clause-value c =
    let bytes = take (c.args.to - c.args.from) (drop c.args.from c.args.bytes.now) in
    let long : length bytes ≡ c.args.to - c.args.from = simp (length-take, length-drop) (omega arith) in
    rw (← part c.args.from c.args.to c.args.bytes.now c.requires.0)
    (omega (arith, nowhere c.args.byte _ (sym c.place_of.ensures ∙ c.in-None.is), long))
