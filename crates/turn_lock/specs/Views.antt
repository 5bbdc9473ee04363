-- What each step makes of a view.
use Rattle.std.specs.Prelude.{ℕ, zero, suc, ◌+◌, ◌-◌, List, [], ◌∷◌, ◌++◌, true, false}
use Rattle.turn_lock.specs.declared.view.View.{View}
use Rattle.turn_lock.specs.Lists.{longer, shorter, unused}

module _ {E : Type 0} where
  -- a seat with this number and these spare numbers, which has seen this much, and has no entry of its own
  abbrev pub newcomer : ℕ → ℕ → List E → ℕ → ℕ → View E
  newcomer seats number seen spare_from spare_to = record {
    numbered = true;
    number = number;
    turn = false;
    shuts = false;
    seen = seen;
    told = [];
    mine = [];
    ended = [];
    spare_from = spare_from;
    spare_to = spare_to;
    found = 0;
    noted = [];
    zeros = [];
    seats = seats;
  }

  -- the first seat: number 0, which spares all others
  abbrev pub first_view : ℕ × ℕ → View E
  first_view key = newcomer key.0 0 [] 1 key.0

  -- a view that was joined away
  abbrev pub spent : View E
  spent = record (newcomer 0 0 [] 0 0) { numbered = false }

  -- after the count was read: the history so far is seen
  abbrev pub sees : List E → View E → View E
  sees log v = record v { seen = log; told = [] }

  -- after the turn was taken
  abbrev pub takes_turn : List E → View E → View E
  takes_turn log v = record v { turn = true; seen = log; told = [] }

  -- after a compare-exchange that found the turn taken
  abbrev pub finds_taken : View E → View E
  finds_taken v = record v { found = v.found + 1 }

  -- after so many compare-exchanges in all that found it taken
  abbrev pub tried : ℕ → View E → View E
  tried found v = record v { found = found }

  -- after the count was raised for an entry
  abbrev pub adds : E → View E → View E
  adds e v = record v { seen = v.seen ++ e ∷ []; mine = v.mine ++ e ∷ [] }

  -- after these entries of its own
  abbrev pub grows : List E → View E → View E
  grows more v = record v { seen = v.seen ++ more; mine = v.mine ++ more }

  -- after a post was filled, or was found filled
  abbrev pub notes : ℕ → ℕ → View E → View E
  notes k x v = record v { noted = (k, x) ∷ v.noted }

  -- after a post was found empty
  abbrev pub finds_empty : ℕ → View E → View E
  finds_empty k v = record v { zeros = v.zeros ++ k ∷ [] }

  -- after post k was found to hold x
  abbrev pub finds_post : ℕ → ℕ → View E → View E
  finds_post k zero v = finds_empty k v
  finds_post k (suc x) v = notes k (suc x) v

  -- after the turn was given
  abbrev pub gives_turn : View E → View E
  gives_turn v = record v { turn = false }

  -- after the turn was closed for good
  abbrev pub closes : View E → View E
  closes v = record v { turn = false; shuts = true }

  -- the seat that gave its lowest spare number away
  abbrev pub spares_less : View E → View E
  spares_less v = record v { spare_from = v.spare_from + 1 }

  -- the new seat with that number
  abbrev pub split_off : View E → View E
  split_off v = record (newcomer v.seats v.spare_from v.seen 0 0) { told = v.told }

  -- a note: what was seen, and no number
  abbrev pub note_of : View E → View E
  note_of v = record (newcomer v.seats 0 v.seen 0 0) { numbered = false; told = v.told }

  -- v after it was told what w has seen
  abbrev pub learns : View E → View E → View E
  learns v w = record v { told = w.seen ∷ (v.told ++ w.told) }

  -- the numbers that a seat hands on as it ends, each with its entries: its own, those that ended in it, and those that it still spared
  abbrev pub handed_on : View E → List (ℕ × List E)
  handed_on w = (w.number, w.mine) ∷ (w.ended ++ unused w.spare_from (w.spare_to - w.spare_from))

  -- v after the seat of w was joined to it
  abbrev pub joined : View E → View E → View E
  joined v w = record v { seen = longer v.seen w.seen; told = shorter v.seen w.seen ∷ (v.told ++ w.told); ended = v.ended ++ handed_on w }
