-- What a line with names says, of ours: the book made of a text is the book of the text's rules (words' R3), the atom told of a word is the one
-- with that name, and no other has it (R4). So what any sound checker accepts is true of the text.
use mathlib.Core.Path.{◌≡◌, sym, ◌∙◌, ap, subst}
use mathlib.Core.List.{List}
use Prim.Native.Nat.{ℕ}
use native.Mathlib.Omega.{arith}
use lib.ListN.{length, take, length-map}
use lib.Seq.{take_at}
use Rattle.meaning.specs.declared.AtomNo.{AtomNo}
use Rattle.meaning.specs.declared.kind.Kind.{Kind}
use Rattle.meaning.specs.Books.{Book}
use Rattle.meaning.specs.Claim.{Holding, Contrary}
use Rattle.book.specs.Rows.{atom_count}
use Rattle.book.specs.Writing.{bytes_of_book}
use Rattle.std.specs.Prelude.{Some}
use Rattle.words.specs.Words.{Word}
use Rattle.words.specs.Names.{whose_of}
use Rattle.words.specs.Reading.{State, book_of, names_of, says, said, words_in}
use Rattle.words.specs.Make.{filled, starts_of, ends_of, Answer}
use Rattle.words.specs.Rows.{book_said}
use Rattle.words.proofs.Reached.{words-fit}
use Rattle.words.proofs.Apart.{names_apart}
use Rattle.words.proofs.WhoseAtom.{heard-spelled, whose-named, named-whose}
use Rattle.words.proofs.Told.{Made, said-book, refused-row, refused-43, make-keeps, told-made, said-made}
use Rattle.demands.specs.Engine.{Engine, ours}
use Rattle.demands.specs.Damaged.{GoodBook}
use Rattle.demands.specs.Demand3.{Sound}
use Rattle.demands.specs.DemandNone.{Checker, SoundNone}
use Rattle.demands.specs.DemandNames.{our_maker, our_asker, Making, NameOf, NamesSound, NoneSound, TellsNames, DemandNames}
use Rattle.demands.proofs.Damaged.{good-is}
use Rattle.demands.proofs.Books.{good-exactly}
use Rattle.demands.proofs.Ours3.{our-papers}
use Rattle.demands.proofs.OursNone.{ours-none}

module _ {s book from to : List ℕ} (m : Making our_maker s book from to) where
  abbrev made : Made s m.out m.starts m.ends m.size
  made = told-made s m.out m.starts m.ends m.size m.told

  -- where reading the text comes to
  abbrev state : State
  state = made.state

  abbrev names : List (List ℕ)
  names = names_of state.names

  text_says : words_in s ≡ says names state.rules
  unfolding said
  text_says = ap said made.read

  book-bytes : book ≡ bytes_of_book (book_of state)
  book-bytes =
      m.bytes ∙ ap (λ (x : Answer). take m.size x.book) made.given
      ∙ take_at (bytes_of_book (book_of state)) _ m.size made.size

  book-good : GoodBook book (book_of state)
  book-good = ((good-exactly (book_of state) book).1 (words-fit s state made.read, book-bytes)).1

  -- what holds of the book that the bytes are holds of what the text says
  book-said : {b : Book} → GoodBook book b → b ≡ book_said names state.rules
  book-said g = sym (good-is book g) ∙ good-is book book-good ∙ said-book state

  module _ (w : List ℕ) (a : AtomNo) where
    asked : whose_of s (atom_count book) from to w
        ≡ whose_of s (length state.names) (filled (starts_of state.names)) (filled (ends_of state.names)) w
    asked =
        let counted : atom_count book ≡ length state.names = book-good.bytes.atoms in
        let begun : from ≡ filled (starts_of state.names) = m.begins ∙ ap (λ (x : Answer). x.from) made.given in
        let ended : to ≡ filled (ends_of state.names) = m.stops ∙ ap (λ (x : Answer). x.to) made.given in
        λ i. whose_of s (counted i) (begun i) (ended i) w

    told-name : whose_of s (atom_count book) from to w ≡ Some a → NameOf names w a
    told-name e =
        let g = names_apart s state made.read in
        let (below, same) = whose-named s state.names (heard-spelled s state made.read) g w a.0 (sym asked ∙ e) in
        let long = length-map state.names (λ (x : Word). x.bytes) in
        record {
          below = omega (arith, long, below);
          name = same;
          only = λ i h k. g.apart i a.0 h (omega (arith, long, below)) (k ∙ sym same);
        }

    name-told : NameOf names w a → whose_of s (atom_count book) from to w ≡ Some a
    name-told n =
        let long = length-map state.names (λ (x : Word). x.bytes) in
        asked ∙ named-whose s state.names (heard-spelled s state made.read) (names_apart s state made.read) w a.0
        (omega (arith, long, n.below)) n.name

-- whatever sound checker
pub names-sound : (q : Kind) (e : Engine) → Sound q e → NamesSound q our_maker our_asker e
names-sound q e sound s book from to m w a asks paper accepts =
    let (x, y, (b, good, holding)) = sound book paper a accepts in
    (names m, (state m).rules, text_says m, told-name m w a asks, subst (λ (c : Book). Holding q c a) (book-said m good) holding)

pub none-sound : (check : Checker) → SoundNone check → NoneSound our_maker check
none-sound check sound s book from to m paper accepts =
    let (b, good, none) = sound book paper accepts in
    (names m, (state m).rules, text_says m, subst Contrary (book-said m good) none)

our-tells : TellsNames our_maker our_asker
our-tells s book from to m l rs e w a =
    let same : names m ≡ l = let f = sym (text_says m) ∙ e in cc in
    (λ k. subst (λ n. NameOf n w a) same (told-name m w a k), λ n. name-told m w a (subst (λ n. NameOf n w a) (sym same) n))

pub ours-names : DemandNames our_maker our_asker ours
ours-names = record {
  sound = λ q. names-sound q ours (our-papers q).sound;
  sound_none = none-sound ours.check ours-none.sound;
  makes = said-made;
  tells = our-tells;
  refuses = refused-row;
  refuses-long = refused-43;
  keeps = make-keeps;
}
