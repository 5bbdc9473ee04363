-- The places of the notifiers that were handed in, as these come back.
use Rattle.std.specs.Prelude.{◌≡◌, ℕ, List, [], ◌∷◌, length, slice_set, flat_map, All, Option, None, Some, IfSome}
use Rattle.std.specs.Option.{option_to_list}
use Rattle.orc_ids.specs.declared.lookup.Outcome.{Outcome}
use Rattle.notifiers.specs.declared.notice.Notice.{Notice}
use Rattle.notifiers.specs.declared.notes.Noted.{Noted}
use Rattle.notifiers.specs.declared.notes.Noted.TheVariants.{Fired, Unfired}

-- a place for each
abbrev pub Places : Type 0 → Type 0
Places N = List (Option (Noted N))

module _ {N : Type 0} where
  -- those that were told are put in the places of their notes, one after the other
  abbrev pub put_told : List (Notice N) → Places N → Places N
  put_told [] places = places
  put_told (f ∷ told) places = put_told told (slice_set places f.note (Some (Fired f.what)))

  abbrev pub put_all_told : List (List (Notice N)) → Places N → Places N
  put_all_told [] places = places
  put_all_told (told ∷ more) places = put_all_told more (put_told told places)

  module _ (heard : N → Option Outcome) where
    -- it was told nothing
    abbrev pub HasHeardNothing : Noted N → Type 0
    HasHeardNothing (Fired what) = ⊥
    HasHeardNothing (Unfired what) = heard what ≡ None

    abbrev pub NoneHasHeard : Places N → Type 0
    NoneHasHeard places = All (λ o. IfSome o HasHeardNothing) places

    -- These came back, in the order of their places: first the others were put there, and then those that were told.
    pub record ArePut (count : ℕ) (told : List (List (Notice N))) (back : List (Noted N)) : Type 0 where
      pub others : Places N
      pub size : length others ≡ count
      pub unheard : NoneHasHeard others
      pub are : back ≡ flat_map option_to_list (put_all_told told others)
