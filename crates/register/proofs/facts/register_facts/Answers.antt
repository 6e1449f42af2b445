use Rattle.std.proofs.Common.{[], length, arith}
use Rattle.register.specs.ImageMessage.{everything}
use Rattle.register.proofs.Bounds.{book_bytes}
use Rattle.register.proofs.Checked.{opened_is, opened_key}
use Rattle.register.proofs.Encoding.{message_inj}
use Rattle.register.proofs.ImageMessages.{message_agrees, message_before}
use Rattle.register.proofs.Images.{check_is, check_only, unframed_iff}
use Rattle.register.proofs.LongNames.{long_name}
use Rattle.register.proofs.Passing.{passes_iff}
use Rattle.register.proofs.Rows.{first_fault_iff, accepted_iff, accepted_in_range, accepted_name}
use Rattle.register.proofs.Runs.{book_fits, run_is, run_only, runs_extend, run_book, step_sound}
use Rattle.register.proofs.Steps.{calls_follow, input_leaves, input_replies}
use Rattle.register.proofs.WorkedRows.{row_examples}
use Rattle.register.proofs.Writings.{outputs_follow, put_more}
use Rattle.register.proofs.facts.register_facts.Goals as goal

pub returns-clause-facts : goal.returns-clause-facts
returns-clause-facts g c = record {
  rows_agree = first_fault_iff;
  none_agrees = accepted_iff;
  accepted_in_range = accepted_in_range;
  accepted_name = accepted_name;
  runs_agree = run_is;
  one_run = λ before after inputs replies h. run_only before inputs replies after h;
  steps_agree = step_sound;
  runs_extend = runs_extend;
  runs_book = run_book;
  book_bytes = book_bytes;
  book_fits = book_fits;
  opens_key = opened_key g.F.Family.meaning;
  opens_new = opened_is g.F.Family.meaning;
  calls_follow = calls_follow g.F.Family.meaning;
  calls_reply = input_replies g.F.Family.meaning;
  calls_leave = input_leaves g.F.Family.meaning;
  outputs_follow = outputs_follow g.F.Family.meaning;
  put_more = put_more;
  message_injective = message_inj;
  check_agrees = λ code image bs. check_is code (length image) [] image 0 (omega arith) bs;
  one_check = λ code image o bs h. check_only code (length image) [] image 0 o (omega arith) bs h;
  passes_agree = passes_iff g.F.Family.meaning;
  framing_agrees = unframed_iff;
  message_before = message_before;
  message_whole = λ image bs none. (message_agrees image image bs).1 (everything none);
  message_agrees = message_agrees;
  long_name = long_name g.F.Family.meaning;
}

pub returns-clause-examples : goal.returns-clause-examples
returns-clause-examples g c = row_examples
