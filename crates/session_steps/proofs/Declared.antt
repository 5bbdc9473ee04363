-- The lemmas that other crates cite, by the file that has them.
pub use Rattle.session_steps.proofs.Counting.{counted, fits, lacks, plain_length}
pub use Rattle.session_steps.proofs.NewUnits.{did_perform, lacked_memory, told_step}
pub use Rattle.session_steps.proofs.Rested.{entering, place_left, plain_push, rested, rows_after, told_by}
pub use Rattle.session_steps.proofs.Standing.{can_step, did_step, enters, entry, free, goes_by, quiet_entry, stands, stopped}
pub use Rattle.session_steps.proofs.TakenJobs.{binds_after, can_hand_out, first_of, gives_after, take_entry, takes_entered, takes_none}
pub use Rattle.session_steps.proofs.Telling.{fires_are}
