-- The names that most proofs cite, re-exported from one place. This file declares nothing.
pub use Rattle.std.proofs.Common.{Bool, Err, Greater, Less, List, None, Ok, Option, Result, Some}
pub use Rattle.std.proofs.Common.{[], add-one, ap, append-nil, append_assoc, arith, cond, drop}
pub use Rattle.std.proofs.Common.{false, fold, get_or, inl, inr, le_trans, length, length-append}
pub use Rattle.std.proofs.Common.{lit≤, ltb, map, nat_le, not, refl, rules, set, slice_get}
pub use Rattle.std.proofs.Common.{slice_range, subst, suc, sym, take, true, vec_capacity, vec_len}
pub use Rattle.std.proofs.Common.{zero, ℕ, ◌%◌, ◌&&◌, ◌*◌, ◌++◌, ◌+◌, ◌-◌, ◌/◌, ◌<◌, ◌==◌, ◌^◌}
pub use Rattle.std.proofs.Common.{◌||◌, ◌↔◌, ◌∙◌, ◌∷◌, ◌≡◌, ◌≢◌, ◌≤◌, ◌⊎◌}
pub use Rattle.std.proofs.Math.Bool.{and-false, or-false, or-true}
pub use Rattle.std.proofs.Math.Seq.{drop-append_seam, take-append_seam}
pub use Rattle.std.proofs.lemmas.Bool.{and_from, and_left, and_parts, both_ways, cases_eq}
pub use Rattle.std.proofs.lemmas.Bool.{cases_lt, cond-true, eq-eqb, eqb-true, false_from_ne_true}
pub use Rattle.std.proofs.lemmas.Bool.{false≢true, le-leb, le-ltb, leb-false, leb-true, lt-leb}
pub use Rattle.std.proofs.lemmas.Bool.{lt-ltb, ltb-false, ltb-true, ne_eqb, not-false}
pub use Rattle.std.proofs.lemmas.Bool.{not_from_false, or_cases, or_left, or_parts, or_right}
pub use Rattle.std.proofs.lemmas.Bool.{true_from_ne_false, true≢false}
pub use Rattle.std.proofs.lemmas.Bool.Decides.{eqb_tells, nat_tests}
pub use Rattle.std.proofs.lemmas.Grind.{common_steps, flat_map-append}
pub use Rattle.std.proofs.lemmas.List.{ext_get_or, get_or-drop, get_or-set_other, get_or-set_same}
pub use Rattle.std.proofs.lemmas.List.{get_or-take, get_or_append_left, get_or_default}
pub use Rattle.std.proofs.lemmas.List.{get_or_past, get_or_push, length-drop, length-map}
pub use Rattle.std.proofs.lemmas.List.{length-replicate, length-set, length-take, length-take-le}
pub use Rattle.std.proofs.lemmas.List.{map-append, take-append-drop, take-append-le, take_all}
pub use Rattle.std.proofs.lemmas.List.Elements.{All-nil, All-weaker}
pub use Rattle.std.proofs.lemmas.List.Folds.{list_any-append}
pub use Rattle.std.proofs.lemmas.List.Sums.{count_by-le-length, sum_by-append, sum_by-cons}
pub use Rattle.std.proofs.lemmas.Map.Keys.{any_passes_from_place}
pub use Rattle.std.proofs.lemmas.Option.{cond_some, get_or_from_slice_get, none-some}
pub use Rattle.std.proofs.lemmas.Option.{option_and_then_some, same_Some, slice_get-get_or}
pub use Rattle.std.proofs.lemmas.Option.{slice_get-map, slice_get_past, slice_get_read}
pub use Rattle.std.proofs.lemmas.Option.{slice_get_within}
pub use Rattle.std.proofs.lemmas.Result.{IfOk-from_err, err_from_is_err_and, on_err_weaker}
pub use Rattle.std.proofs.lemmas.Result.{on_ok_weaker}
pub use Rattle.std.proofs.lemmas.Slice.Eq.{bytes_eq-Decides}
pub use Rattle.std.specs.Fmt.{decimal}
pub use Rattle.std.specs.Int.{to_be_bytes, w16, w64}
pub use Rattle.std.specs.Io.KnownBytes.{Appends, Consumes, Keeps}
pub use Rattle.std.specs.List.{All, AllByRecursion, cons_option, filter_map, flat_map, list_all}
pub use Rattle.std.specs.List.{list_any, range_with_len}
pub use Rattle.std.specs.Option.{IfSome, ok_or, option_and_then, option_copied, option_map}
pub use Rattle.std.specs.Option.{option_map_or, option_or, option_to_list}
pub use Rattle.std.specs.Ordering.{is_lt, ordering_then}
pub use Rattle.std.specs.Prelude.{IfErr, IfOk, IsSome, IsTrue, MatchResult, OnErr, OnOk, codes}
pub use Rattle.std.specs.Prelude.{count_by, filter, find, if◌then◌else◌, is_none, is_some, min}
pub use Rattle.std.specs.Prelude.{nat_lt, pos, position, replicate, slice_index_or, slice_set}
pub use Rattle.std.specs.Prelude.{unwrap_or, ⊤}
pub use Rattle.std.specs.Result.{result_unwrap_or}
pub use Rattle.std.specs.Str.{bytes_eq}
pub use Rattle.run_model.proofs.LayoutLemmas.{most_scopes_most, most_tasks_most}
pub use Rattle.run_model.proofs.NameLemmas.{name_is_free}
pub use Rattle.run_model.proofs.RefusalLemmas.{each_fails, is_first, unless_Ok}
pub use Rattle.run_model.proofs.RowLemmas.{at_row_cases, length-at_row, map_cases, push_cases}
pub use Rattle.run_model.proofs.RowLemmas.{row_there, slice_get-at_row_other}
pub use Rattle.run_model.proofs.RowLemmas.{slice_get-at_row_same, slice_get-push_last}
pub use Rattle.run_model.proofs.RowLemmas.{slice_get-push_left}
pub use Rattle.run_model.specs.Allowed.{IsPrefix, after, allowed, has_kind, has_room, has_row}
pub use Rattle.run_model.specs.Allowed.{is_cancellable, is_open, refusals, run, takes_cause}
pub use Rattle.run_model.specs.Allowed.{tested, unless}
pub use Rattle.run_model.specs.Event.{Event, Restart}
pub use Rattle.run_model.specs.Layouts.{layout_of, most_scopes, most_tasks, store_len}
pub use Rattle.run_model.specs.Lengths.{body_len}
pub use Rattle.run_model.specs.Questions.{group_look_of, look_of, task_look_of}
pub use Rattle.run_model.specs.Reasons.{reason_text}
pub use Rattle.run_model.specs.Records.{is_limit, is_moment, is_optional_text, is_outcome}
pub use Rattle.run_model.specs.Records.{is_recorded, is_recorded_kind, is_row_number}
pub use Rattle.run_model.specs.Replies.{and_then, answer_of, decide, decide_finish, decide_start}
pub use Rattle.run_model.specs.Replies.{decided, event_of, group_of, if_room, is_full, is_repeated}
pub use Rattle.run_model.specs.Replies.{kind_made, reply_finish, reply_start, scope_of, started_of}
pub use Rattle.run_model.specs.Replies.{state_after}
pub use Rattle.run_model.specs.Rows.{at_row, new_group, new_scope, new_task, root}
pub use Rattle.run_model.specs.Rules.{AreAdmitted, AreDeadlines, AreErrors, AreGroupScopes}
pub use Rattle.run_model.specs.Rules.{AreHits, AreLinked, AreNumbered, HasLayout, HasRow}
pub use Rattle.run_model.specs.Rules.{IsConsistent, IsRetry, Owns, can_be_hit, has_task_error}
pub use Rattle.run_model.specs.Scopes.{AreOrdered, before_detached, chain, comes_before}
pub use Rattle.run_model.specs.Scopes.{deadline_of, ending, first_hit, hit_at, is_detached}
pub use Rattle.run_model.specs.Scopes.{is_done, is_group_kind, is_root, least_hit, line}
pub use Rattle.run_model.specs.Scopes.{line_within, own_deadline, own_hit, text_under, upwards}
pub use Rattle.run_model.specs.Scopes.{value_of}
pub use Rattle.run_model.specs.Session.{Session, accepted, acknowledged, after_step, begun_at}
pub use Rattle.run_model.specs.Session.{event_of_step, opened, replied, reply_of_step}
pub use Rattle.run_model.specs.Session.{session_after, with_event}
pub use Rattle.run_model.specs.Spelling.{body, kind_bytes, optional_bytes, record_len, spelling}
pub use Rattle.run_model.specs.Spelling.{tag, text_bytes}
pub use Rattle.run_model.specs.State.{State, TreeState, WorkState, formatted, group_named}
pub use Rattle.run_model.specs.State.{new_tree, new_work, scope_named}
pub use Rattle.run_model.specs.Step.{after_group_cancel, after_task_end, own_scope, step}
pub use Rattle.run_model.specs.Tasks.{admits, ended_in_error, first_ready, has_stage, is_admitted}
pub use Rattle.run_model.specs.Tasks.{is_fresh, is_interrupted, is_ready, is_retried, is_retry_of}
pub use Rattle.run_model.specs.Tasks.{is_running, is_unfinished, limit_of, phase_by, phase_of}
pub use Rattle.run_model.specs.Tasks.{running_count, running_tasks, unfinished_in}
pub use Rattle.run_model.specs.Texts.{is_name, is_text}
pub use Rattle.run_model.specs.TreeChanges.{after_advance, after_cancel, after_derive, hit_due}
pub use Rattle.run_model.specs.TreeChanges.{new_hit, tick, with_hit}
pub use Rattle.run_model.specs.WorkChanges.{after_end, after_interrupt, after_limit, after_make}
pub use Rattle.run_model.specs.WorkChanges.{after_wait, error_of, group_of_task, groups_after}
pub use Rattle.run_model.specs.WorkChanges.{interruption, retried_row, stage_of, with_error}
pub use Rattle.run_model.specs.WorkChanges.{with_limit, with_stage, with_wait}
