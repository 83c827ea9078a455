-- What `up_to` returns: each call of the closure, at an index below 32, gives the octet of that index.
use Rattle.words.specs.Basics.{◌≡◌, refl, arith}
use Rattle.std.proofs.Common.{rules}
use Rattle.std.proofs.lemmas.Fn.{serves_by}
use Rattle.device_records.proofs.Made.{made_up_to}
use Rattle.device_records.proofs.up_to.Goals as goal

pub from_fn-requires : goal.from_fn-requires
from_fn-requires c =
    (omega arith, serves_by _ (λ xs q. q.0.now ≡ c.args.top) (λ xs q x v h e. search rules) _ _ _ _ refl (λ xs t q x u y s j. search rules))

pub returns : goal.returns
returns c = made_up_to _ (λ q. q.0.now ≡ c.args.top) c.args.top (λ f i y q k e. search rules) refl c.from_fn.ensures.items
