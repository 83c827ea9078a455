-- `indexing::bind_key` meets its contract. Each field is one digit.
use Rattle.words.specs.Basics.{◌∙◌, arith}
use Rattle.rules.specs.Octets.{flag, number}
use Rattle.rules.specs.Units.{unit_number, unit_at}
use Rattle.index_rules.specs.Index.{bind_key}
use Rattle.indexing.proofs.bind_key.Goals as goal

pub key_of-requires : goal.key_of-requires
unfolding flag number
key_of-requires c = (omega arith, omega arith)

pub returns : goal.returns
unfolding bind_key unit_at unit_number
returns c =
    let key = c.key_of.ensures in
    (key.0 ∙ rw (c.bind_source-source.ensures, c.bind_source_unit.ensures, c.bind_uid.ensures, c.bind_role.ensures), key.1)
