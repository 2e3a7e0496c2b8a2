-- The condition of a pass of marking. Document 01, "Colours and closing": "Support".
--
--   marking b off    "a rule that is not off, and whose positive atoms are all heads of rules in V, is in V"
use Rattle.meaning.specs.Books.{Rules, Book}
use Rattle.meaning.specs.Computed.{upheld}
use Rattle.closing.specs.Growing.{Condition}

unfoldable pub marking : Book → Rules → Condition
marking b off = upheld b off
