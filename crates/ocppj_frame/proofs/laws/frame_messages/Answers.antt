-- `Messages` proves the laws.
use Rattle.ocppj_frame.proofs.Messages.{messages_by_rows, messages_of_texts}
use Rattle.ocppj_frame.proofs.laws.frame_messages.Goals as goal

pub returns : goal.returns
returns c = record {
  trees = messages_by_rows;
  texts = messages_of_texts;
}
