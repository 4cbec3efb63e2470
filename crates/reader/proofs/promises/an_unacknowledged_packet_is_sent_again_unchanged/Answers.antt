use Rattle.reader.proofs.SentAgain.{an_unacknowledged_packet_is_sent_again_unchanged}
use Rattle.reader.proofs.promises.an_unacknowledged_packet_is_sent_again_unchanged.Goals as goal

pub returns : goal.returns
returns c = an_unacknowledged_packet_is_sent_again_unchanged
