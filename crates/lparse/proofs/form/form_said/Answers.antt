-- A word that says no atom changes nothing or opens a choice; one that says an atom opens the rule with it, and adds an entry's rule.
use native.Mathlib.Omega.{arith}
use Rattle.lparse.proofs.Formed.{placed-atom, forms-silent, forms-choice, forms-atom}
use Rattle.lparse.proofs.form.form_said.Goals as goal

pub opened_by-requires : goal.opened_by-requires
opened_by-requires c =
    let (h, k) = placed-atom c.args.atoms.now _ _ c.in-Atom.is c.requires in
    omega (arith, c.number_of-n.ensures)

pub returns-in-Nothing : goal.returns-in-Nothing
returns-in-Nothing c =
    forms-silent c.args.atoms.now c.args.f _ c.in-Nothing.is

pub returns-in-Choice : goal.returns-in-Choice
returns-in-Choice c =
    forms-choice c.args.atoms.now c.args.f _ c.in-Choice.is c.open_rule.ensures

pub returns-in-Atom : goal.returns-in-Atom
returns-in-Atom c =
    forms-atom c.args.atoms.now c.args.f _ _ c.in-Atom.is c.requires
    c.number_of-n.ensures c.opened_by.ensures c.entry_by.ensures c.add_entry.ensures
