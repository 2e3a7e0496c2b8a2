-- The events of the walk, one for each try, in order. Document 01, "The walk and its tries": "One try is one closing. Start at the empty
-- colouring. After a closing: contradiction, go back; every rule coloured, one answer set; else take the lowest uncoloured rule, walk
-- first with it on, then with it off."
--
--   events b c       the events of the walk that starts at the colouring c
--   rest b c x       those that come after the reading x: what is left to do for one who has gone as far as x
--
-- The lists are never built: they say what the walk does.
use Rattle.std.specs.Prelude.{Bool, true, false, List, [], ◌∷◌, ◌++◌, ℕ, zero, suc}
use Rattle.meaning.specs.declared.RuleNo.{RuleNo}
use Rattle.meaning.specs.Written.{Tables}
use Rattle.meaning.specs.Books.{Atoms, Book, count}
use Rattle.meaning.specs.AnswerSet.{generating}
use Rattle.meaning.specs.Colours.{on_side, off_side, uncoloured}
use Rattle.meaning.specs.Written.{chosen, pair}
use Rattle.meaning.specs.Computed.{close}
use Rattle.meaning.specs.Lowest.{Pick, none, one, lowest, clashed}

-- how a try ends: in a contradiction, with the lowest rule in both sets of the closed pair; at a rule without a colour; or with every rule
-- coloured; a quiet try ends in neither a contradiction nor a reading that counts, and `events` has none
pub data Event : Type 0 where
  clash : RuleNo → Event
  fork : RuleNo → Event
  reading : Tables → Event
  quiet : Event

-- after a closing that gave d: its lowest rule in both sets, its lowest uncoloured rule, and the walk below
unfoldable pub after : Tables → Pick → Pick → (Tables → List Event) → List Event
after d (one r) p further = clash r ∷ []
after d none none further = reading d ∷ []
after d none (one r) further = fork r ∷ (further (chosen on_side r d) ++ further (chosen off_side r d))

abbrev pub after_closing : Book → Tables → (Tables → List Event) → List Event
after_closing b d further = after d (clashed b (pair d)) (lowest b (uncoloured (pair d))) further

-- through at most n levels
unfoldable pub events_in : ℕ → Book → Tables → List Event
events_in zero b c = []
events_in (suc n) b c = after_closing b (close b c) (λ d. events_in n b d)

-- each level colours a rule, so one level more than there are rules is enough
unfoldable pub events : Book → Tables → List Event
events b c = events_in (suc (count b)) b c

-- the same for what comes after x: at a leaf nothing; at a fork, the rest of the side that x is on, and the other side if it comes later
unfoldable pub beside : Bool → List Event → List Event → List Event → List Event
beside true rest_on rest_off all_off = rest_on ++ all_off
beside false rest_on rest_off all_off = rest_off

unfoldable pub after_past : Book → Tables → Atoms → Pick → Pick → (Tables → List Event) → List Event
after_past b d x (one r) p further = []
after_past b d x none none further = []
after_past b d x none (one r) further =
    beside (generating b x r) (further (chosen on_side r d)) (further (chosen off_side r d)) (events b (chosen off_side r d))

unfoldable pub rest_in : ℕ → Book → Tables → Atoms → List Event
rest_in zero b c x = []
rest_in (suc n) b c x =
    let d = close b c in after_past b d x (clashed b (pair d)) (lowest b (uncoloured (pair d))) (λ e. rest_in n b e x)

unfoldable pub rest : Book → Tables → Atoms → List Event
rest b c x = rest_in (suc (count b)) b c x
