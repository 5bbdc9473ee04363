-- The lemmas that other crates cite, by the file that has them.
pub use Rattle.session_laws.proofs.Addresses.{addresses_are_kept}
pub use Rattle.session_laws.proofs.Along.{one_more_legal, prefixes_legal, state_from_push}
pub use Rattle.session_laws.proofs.Answering.{linked_ends}
pub use Rattle.session_laws.proofs.Changes.{owned_from, owned_parts}
pub use Rattle.session_laws.proofs.Choosing.{collect_unplaced, reply_is_determined, take_unplaced}
pub use Rattle.session_laws.proofs.Defining.{claim_keeps, claim_sound, new_rows_phase, new_rows_unit, replaced_unsearched, sound_settled, waiting_parts}
pub use Rattle.session_laws.proofs.Elements.{appended_at, appended_below, appended_cases, changed_cases, changed_elsewhere, changed_length, changed_some, changed_there, element_below, front_some, map_parts, mapped_at, mapped_length, mapped_parts, mapped_some, none_past, none_there, numbered_at, numbered_length, numbered_parts, numbered_some, pushed_cases, pushed_last, same_element}
pub use Rattle.session_laws.proofs.Ending.{NewQuery, after_query, all_claimed_queries, end_is_unique, end_stays, entries_are, front_and_rest, front_legal, open_has_no_end, query_cases, query_kept, query_stays, query_was_asked}
pub use Rattle.session_laws.proofs.Facts.{deps_parts, held_unemitted, no_dep, ready_emitted, test_from, test_is, test_parts, unsearched_unclaimed}
pub use Rattle.session_laws.proofs.Failing.{fail_fails_hits, remove_fails_hits}
pub use Rattle.session_laws.proofs.Following.{chains_end}
pub use Rattle.session_laws.proofs.Guards.{call_cases, guard_of}
pub use Rattle.session_laws.proofs.Invariant.{claims_leave, good_here, legal_is_sound, sound_after, sound_changed}
pub use Rattle.session_laws.proofs.Keeping.{gone_stays_held, held_stays}
pub use Rattle.session_laws.proofs.Living.{any_flag, live_kept, numbered_same, replaced_here}
pub use Rattle.session_laws.proofs.Losing.{all_appended, deps_in_groups, none_of_first, numbers_all, unit_of_is}
pub use Rattle.session_laws.proofs.Meeting.{none_some, one_end}
pub use Rattle.session_laws.proofs.Moving.{Changes, Claims, Doing, Emits, Fails, Finishes, Goes, Here, Leaves, Links, Loses, Moves, On, Other, Places, Resolves, Runs, Starts, Stays, UnitsMove, Waits, change_moves, doing_of, settled_run}
pub use Rattle.session_laws.proofs.NumberedCalls.{call_first, call_skipped}
pub use Rattle.session_laws.proofs.Origins.{rows_from}
pub use Rattle.session_laws.proofs.Owing.{NoMetWaits, no_met_waits, one_rows}
pub use Rattle.session_laws.proofs.Paths.{closed_reached, reach_transitive, reaches_dep, reaches_self, ready_from_test, ready_tested, test_from_ready}
pub use Rattle.session_laws.proofs.Placing.{full_stays, holder_can_fail, kept_within}
pub use Rattle.session_laws.proofs.Ranges.{live_names_stay, placements_lie_apart}
pub use Rattle.session_laws.proofs.Readying.{legal_rest, reached_ready, ready_stays_ready, state_from_joined}
pub use Rattle.session_laws.proofs.Replies.{AllReplies, GoodMatches, Guard, IsOwnEmission, ask_good, cycles_other, generate_plain, is_defunct_reply, is_lodged_reply, link_good, none_given, refusals_other, replies_else, replies_first, replies_map, replies_only, replies_or, row_here}
pub use Rattle.session_laws.proofs.Resting.{change_before, claims_before, is_link}
pub use Rattle.session_laws.proofs.Rising.{Rises, after_rises, change_rises, defunct_stays, finish_linked, start_listed}
pub use Rattle.session_laws.proofs.RowStages.{emittable, emitting_stage, finishing_stage, held_row, linkable, linkable_held, placed_stage, resolvable, resolvable_held, row_is, stage_of, unclaimed_row}
pub use Rattle.session_laws.proofs.Settling.{chosen, settled_one_keeps, settled_queries, settled_rows, settling_keeps}
pub use Rattle.session_laws.proofs.Unfailing.{only_failures_fail}
