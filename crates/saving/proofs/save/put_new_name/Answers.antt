-- The two copies stand one behind the other.
use Rattle.saving.specs.NewName.{dot_new}
use Rattle.saving.proofs.NewNames.{new-name-copied}
use Rattle.saving.proofs.save.put_new_name.Goals as goal

pub returns-clause-out_after : goal.returns-clause-out_after
unfolding dot_new
returns-clause-out_after c = new-name-copied c.args.path.now _ _ _ _ c.copy_from_slice.ensures.after c.copy_from_slice-2.ensures.after
