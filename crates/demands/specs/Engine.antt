-- An engine, whatever it is made of: its answers, and its buffers afterwards, as functions of what it is handed. The demands are said of
-- any engine; that ours meets them is proved.
--
--   find book k limit answer     asks for the k-th reading, and lends the buffer
--   write q book a limit paper   asks for a paper that atom a is certain, or that it is in no reading, and lends the buffer
--   check book paper             asks whether the paper is right
--   ours                         the functions that the promises of find, name, clear and check are equations with
use Rattle.std.specs.Prelude.{List, ℕ}
use Rattle.meaning.specs.declared.AtomNo.{AtomNo}
use Rattle.meaning.specs.declared.kind.Kind.{Kind}
use Rattle.meaning.specs.declared.kind.Claim.{Claim}
use Rattle.meaning.specs.Claim.{claim}
use Rattle.meaning.specs.Told.{Told, Answered}
use Rattle.walk.specs.Find.{find_of}
use Rattle.writer.specs.Write.{Handed, write_of}
use Rattle.checker.specs.Check.{check_of}

pub record Engine : Type 0 where
  pub find : List ℕ → ℕ → ℕ → List ℕ → Answered ℕ
  pub write : Kind → List ℕ → AtomNo → ℕ → List ℕ → Answered Handed
  pub check : List ℕ → List ℕ → Told Claim

-- for a naming this is name_of, for a clearing clear_of
abbrev pub our_write : Kind → List ℕ → AtomNo → ℕ → List ℕ → Answered Handed
our_write q book a = write_of book (claim q a)

abbrev pub ours : Engine
ours = record { find = find_of; write = our_write; check = check_of }
