-- Text gathered in a buffer, byte after byte while there is room; what does not fit is lost.
--
--   Piece            the bytes of the buffer, and how many of them are held
--   with_byte x p     one byte more, where there is room for it
--   gather text p    all of a text, byte after byte
--   with_text text p  a text behind the bytes held, or nothing where there is no room for all of it
--   with_digits l p   the same of the digits of bytes in hexadecimal, two for each
--   gathered line    what a line is as a piece
use Rattle.std.specs.Prelude.{ℕ, ◌+◌, ◌-◌, ◌*◌, ◌/◌, List, [], ◌∷◌, ◌++◌, length, take, drop, slice_set}
use Rattle.meaning.specs.Buffers.{write_at}
use Rattle.meaning.specs.Choice.{if_lt}
use Rattle.talk.specs.Hexadecimal.{spelled}
use Rattle.talk.specs.declared.line.Line.{Line}

pub record Piece : Type 0 where
  pub bytes : List ℕ
  pub held : ℕ

unfoldable pub with_byte : ℕ → Piece → Piece
with_byte x p = if_lt p.held (length p.bytes) (record { bytes = slice_set p.bytes p.held x; held = p.held + 1 }) p

unfoldable pub gather : List ℕ → Piece → Piece
gather [] p = p
gather (x ∷ text) p = gather text (with_byte x p)

-- every other byte stays
unfoldable pub with_text : List ℕ → Piece → Piece
with_text text p = if_lt (length p.bytes - p.held) (length text) p (record { bytes = write_at p.held text p.bytes; held = p.held + length text })

unfoldable pub with_digits : List ℕ → Piece → Piece
with_digits l p = if_lt ((length p.bytes - p.held) / 2) (length l) p (record {
  bytes = take p.held p.bytes ++ spelled (length l) l (drop p.held p.bytes);
  held = p.held + 2 * length l;
})

abbrev pub gathered : Line → Piece
gathered line = record { bytes = line.room.now; held = line.held }
