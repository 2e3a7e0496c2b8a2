-- Useless versions of join and log (document 02, request 9), each wrong in one way: the second book is not moved up; the log goes by the
-- first book alone; one limit serves both searches; the joined book is written though a search passed its limit.
use Rattle.std.specs.Prelude.{◌++◌, ◌+◌, length, drop}
use Rattle.meaning.specs.Books.{Book}
use Rattle.meaning.specs.Told.{Told, success, refused_with, refused_at, refused}
use Rattle.book.specs.Format.{read_of}
use Rattle.book.specs.Writing.{bytes_of_book}
use Rattle.crews.specs.Join.{on_books, join_in, join_of}
use Rattle.crews.specs.Log.{Entry, both, none_in_first, none_in_second, none_in_either, log_of}
use Rattle.demands.specs.TwoCrews.{Crews}

-- ---- the second book is not moved up

abbrev pub unmoved : Book → Book → Book
unmoved b c = record { atoms = b.atoms + c.atoms; rules = b.rules ++ c.rules }

abbrev pub not_moved : Crews
not_moved = record {
  join = λ first second out. on_books (read_of first) (read_of second) out (λ b c. record {
    told = (join_in b c out).told;
    buffer = bytes_of_book (unmoved b c) ++ drop (length (bytes_of_book (unmoved b c))) out;
  });
  log = log_of;
}

-- ---- by the first book alone

unfoldable pub by_first : Entry → Entry
by_first (both n) = both n
by_first (none_in_first n) = none_in_first n
by_first (none_in_second n) = both n
by_first (none_in_either n) = none_in_first n

unfoldable pub told_by_first : Told Entry → Told Entry
told_by_first (success v) = success (by_first v)
told_by_first (refused_with i l) = refused_with i l
told_by_first (refused_at i at) = refused_at i at
told_by_first (refused i) = refused i

abbrev pub first_alone : Crews
first_alone = record {
  join = join_of;
  log = λ first second limit other out. record {
    told = told_by_first (log_of first second limit other out).told;
    buffer = (log_of first second limit other out).buffer;
  };
}

-- ---- one limit for both

abbrev pub one_limit : Crews
one_limit = record { join = join_of; log = λ first second limit other out. log_of first second limit limit out }

-- ---- written on 9

abbrev pub writes_on_nine : Crews
writes_on_nine = record {
  join = join_of;
  log = λ first second limit other out.
      record { told = (log_of first second limit other out).told; buffer = (join_of first second out).buffer };
}
