-- What a caller reads from the numbers that it is told: the answer of `rules`. A host call tells no count, which is 0.
use Rattle.words.specs.Basics.{◌≡◌, ap, ◌∙◌}
use Rattle.words.specs.Outcomes.{value_of}
use Rattle.words.proofs.Apart.{read_back, read_back_lem, reason_back, reason_back_lem}
use Rattle.rules.specs.Calls.{Answer, explaining}
use Rattle.rules.specs.Host.{HostAnswer, host_answer}
use Rattle.gneissfold.specs.Numbers.{MessageTold, of_message, HostTold, of_host}

abbrev pub answer_of : MessageTold → Answer
answer_of t = explaining (read_back t.number t.count) (reason_back t.reason) t.tables t.reply t.list

abbrev pub host_answer_of : HostTold → HostAnswer
host_answer_of t = host_answer (read_back t.number 0) t.tables

pub message_told_lem : {t : MessageTold} (x : Answer) → t ≡ of_message x → answer_of t ≡ x
message_told_lem x e = ap answer_of e ∙ rw (read_back_lem x.outcome, reason_back_lem x.reason)

pub host_told_lem : {t : HostTold} (x : HostAnswer) → value_of x.outcome ≡ 0 → t ≡ of_host x → host_answer_of t ≡ x
host_told_lem x v e = ap host_answer_of e ∙ rw (← v, read_back_lem x.outcome)
