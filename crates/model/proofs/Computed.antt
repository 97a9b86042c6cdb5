-- One name that opens every definition of the guard, for the proofs that only compute.
use Rattle.model.specs.Basics.{both, either, within, every_from, table_from, table, member, bit, flag, differs}
use Rattle.model.specs.Sizes.{pages_in_range, frames_in_range, devices_in_range, last_byte, last_page, touched}
use Rattle.model.specs.Guard.{vector_bytes, has_bit, byte_of, vector_of, with_bit, in_user, running, mode_of, is_pending, pending_frame, is_asked, in_mode}
use Rattle.model.specs.Guard.{with_pending}
use Rattle.model.specs.Policy.{number_at, numbers_at, policy_of, frame_for, approval_for, named, first_entry, entry_pages, start_state, start_tables, start_guard}
use Rattle.model.specs.Policy.{zero_state}
use Rattle.model.specs.Bits.{present, writable, user_bit, write_through, cache_disable, no_execute, frame_of, kernel_no_execute, approved_mark, fields_of}
use Rattle.model.specs.Bits.{reserved, valid, taken_apart, approved_no_execute, approved, ordinary_no_execute, ordinary, inspected}
use Rattle.model.specs.Tree.{tables_in, tree_in_order, place_above, gathered, flat_entry, large_entry, meeting, onward, walk_from, walk_of, flat_at, reads_at}
use Rattle.model.specs.Devices.{device_at, in_window}
use Rattle.model.specs.Sync.{step_of, step, before, sweep_from, step_from}
use Rattle.model.specs.Switch.{no_execute_in, switched, switched_all, changes}
use Rattle.model.specs.Approvals.{maps, maps_writable, committed_slot}
use Rattle.model.specs.Questions.{first_no, pending_in_range, state_in_order, sizes_in_range, counts_in_range, rising, all_below, in_order, policy_questions}
use Rattle.model.specs.Questions.{givens_in_range, record_questions, lengths_fit, start_questions, sync_all_questions, sync_page_questions, sync_all_tree_questions}
use Rattle.model.specs.Questions.{sync_page_tree_questions, fetch_permitted, fetch_questions, write_permitted, free, every_touched, write_questions}
use Rattle.model.specs.Questions.{enter_questions, leave_permitted, leave_questions, device_write_questions, ask_questions, page_unapproved, commit_questions}
use Rattle.model.specs.Questions.{drop_questions}
use Rattle.model.specs.Calls.{reply_of, outcome_by, started_by, settle, start_of, brought_by, questions_of, page_synced, all_synced, page_from, all_from, switch_to, bit_put}
use Rattle.model.specs.Calls.{pair_committed, effect_of, answer}
use Rattle.model.specs.Walks.{walk_questions, walk_reply, flat_table}

unfoldable pub computed : Unit {0}
unfolding both either within pages_in_range frames_in_range devices_in_range every_from table_from table member bit last_byte last_page touched vector_bytes has_bit flag
    byte_of vector_of with_bit in_user running mode_of is_pending pending_frame is_asked in_mode with_pending number_at numbers_at policy_of frame_for approval_for named
    first_entry entry_pages start_state start_tables start_guard zero_state present writable user_bit write_through cache_disable no_execute frame_of kernel_no_execute
    approved_mark fields_of reserved valid taken_apart approved_no_execute approved ordinary_no_execute ordinary inspected tables_in tree_in_order place_above gathered
    flat_entry large_entry meeting onward walk_from walk_of flat_at reads_at device_at in_window no_execute_in switched step_of step differs before sweep_from step_from
    switched_all changes maps maps_writable committed_slot first_no pending_in_range state_in_order sizes_in_range counts_in_range rising all_below in_order policy_questions
    givens_in_range record_questions lengths_fit start_questions sync_all_questions sync_page_questions sync_all_tree_questions sync_page_tree_questions fetch_permitted
    fetch_questions write_permitted free every_touched write_questions enter_questions leave_permitted leave_questions device_write_questions ask_questions page_unapproved
    commit_questions drop_questions reply_of outcome_by started_by settle start_of brought_by questions_of page_synced all_synced page_from all_from switch_to bit_put pair_committed
    effect_of answer walk_questions walk_reply flat_table
computed = tt
