-- The lemmas that other crates cite, by the file that has them.
pub use Rattle.closure_laws.proofs.Depending.{dependencies_are_kept}
pub use Rattle.closure_laws.proofs.Ends.{FoundAt, bindings_are_ends, bindings_are_matches, bound_addresses_are_kept, found_parts}
pub use Rattle.closure_laws.proofs.Fields.{BindsBy, HasFields, IsNew, MovesTo, after_fields, change_fields, is_define, settled_fields}
pub use Rattle.closure_laws.proofs.HandedIn.{after_have, all_have, empty_have}
pub use Rattle.closure_laws.proofs.Histories.{OneMore, kept_along, kept_by_changes, one_more}
pub use Rattle.closure_laws.proofs.Homing.{claims_frame, rows_have_homes, same_frame, settled_frame}
pub use Rattle.closure_laws.proofs.LevelsStaying.{levels_stay, losses_stay, row_below}
pub use Rattle.closure_laws.proofs.LinkedOnce.{unit_is_linked_once}
pub use Rattle.closure_laws.proofs.Linking.{done_is_bound, links_are_lookups, some_there}
pub use Rattle.closure_laws.proofs.NamesOnce.{names_are_once, settled_there}
pub use Rattle.closure_laws.proofs.Offering.{instances_are_offered}
pub use Rattle.closure_laws.proofs.OwnRows.{define_or, instances_are_live, live_count, units_fit}
pub use Rattle.closure_laws.proofs.RowMoving.{RowClaimed, RowEmitted, RowFails, RowGoes, RowHere, RowMoves, RowOn, RowResolved, RowRuns, RowStays, RowYields, SameRow, change_rows, run_same}
pub use Rattle.closure_laws.proofs.RowSources.{row_was}
pub use Rattle.closure_laws.proofs.Standing.{aliases_stand, lawful_alias}
pub use Rattle.closure_laws.proofs.Staying.{addresses_stay}
pub use Rattle.closure_laws.proofs.Unspent.{unspent_have_trackers}
pub use Rattle.closure_laws.proofs.Unstirred.{quiet_settles_none}
pub use Rattle.closure_laws.proofs.Working.{all_work, is_placed, is_unbound, never, shapeless}
