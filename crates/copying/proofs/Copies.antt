-- Laws of copies: what copying answers, by what was read and whether the copy fits.
use Rattle.std.specs.Prelude.{Ok, Err}
use Rattle.words.specs.Basics.{◌≡◌, sym, ◌∙◌, Bool, true, false, List, [], ◌∷◌, ◌++◌, ℕ, ◌≤◌, arith, length, sets, leb-true}
use Rattle.words.specs.Names.{header_length}
use Rattle.rules.specs.Types.{DeviceAddress, Fields, Refusal, Done, NoCopy}
use Rattle.rules.specs.Octets.{octets, over}
use Rattle.rules.specs.Message.{read_as, reading}
use Rattle.rules.specs.Copy.{copied, copy_fits, copy_answer, copy}
use Rattle.rules.proofs.Lists.{split, ask_pass, ask_fail}
use Rattle.messages.proofs.Reading.{reads_on, reads-refused}
use Rattle.messages.proofs.Replies.{sets_in}

module _ (m room : List ℕ) (d : DeviceAddress) (u : ℕ) where
  pub copy-refused : {why : Refusal} → read_as (Err why) ≡ reading m → copy_answer (Err why) room ≡ copy m room d u
  unfolding copy
  copy-refused e = sym (reads-refused m e (λ why. copy_answer (Err why) room) _)

  -- f was read, and b says whether the copy fits
  module _ {f : Fields} {b : Bool} (e : read_as (Ok f) ≡ reading m) (h : b ≡ copy_fits m room d u) where
    pub copy_unfit : b ≡ false → copy_answer (Err NoCopy) room ≡ copy m room d u
    unfolding copy
    copy_unfit t = sym (reads_on m e (λ why. copy_answer (Err why) room) _ ∙ ask_fail _ _ (sym h ∙ t))

    pub copy_done : b ≡ true → copy_answer (Ok (Done (length m))) (over (copied m d u) room) ≡ copy m room d u
    unfolding copy
    copy_done t = sym (reads_on m e (λ why. copy_answer (Err why) room) _ ∙ ask_pass _ _ (sym h ∙ t))

  -- a copy that fits has room
  pub copy-room : {b : Bool} → b ≡ copy_fits m room d u → b ≡ true → length m ≤ length room
  unfolding copy_fits
  copy-room h t = leb-true (length m) (length room) (split (split (sym h ∙ t)).0).0

  -- octets 4 to 6 stored in the room where the message was put are stored in the message
  pub copied-over : header_length ≤ length m → sets (over m room) 3 (octets d.0 ++ u ∷ []) ≡ over (copied m d u) room
  unfolding octets copied
  copied-over h = sets_in m room 3 (octets d.0 ++ u ∷ []) (omega arith)
