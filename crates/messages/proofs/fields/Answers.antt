-- `messages::fields` meets its contract. Each field is what a callee or an octet says.
use Rattle.words.specs.Basics.{rules}
use Rattle.rules.specs.Octets.{flag, number}
use Rattle.rules.specs.Message.{data_length_of, message_type_of, fields}
use Rattle.messages.proofs.fields.Goals as goal

pub returns : goal.returns
unfolding flag number data_length_of message_type_of fields
returns c = search rules
