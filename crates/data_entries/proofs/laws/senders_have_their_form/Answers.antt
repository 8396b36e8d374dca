use Rattle.data_entries.proofs.Forms.{sender_formed}
use Rattle.data_entries.proofs.laws.senders_have_their_form.Goals as goal

pub returns : goal.returns
returns c = sender_formed
