-- Reading binds back (document 02, request 1; document 000, 6.2.5.7 to 6.2.5.13): who has a read session, what closes it, and which binds a read gives.
use Rattle.std.specs.Prelude.{Bool, true, false, cond, List, ◌∷◌, ℕ, ◌+◌, ◌-◌, ◌/◌, min, length, take, drop}
use Rattle.words.specs.Names.{header_length, longest}
use Rattle.rules.specs.Types.{DeviceAddress, Filter, Index, Part, Binds, Sessions}
use Rattle.rules.specs.Lists.{any, keep}
use Rattle.rules.specs.Octets.{octet, word}
use Rattle.rules.specs.Tables.{Rec, bytes, used, addressed, Change, none, store, wipe}
use Rattle.rules.specs.Layout.{size, part_is, part_length}
use Rattle.rules.specs.Frame.{Tables, also, Effect}
use Rattle.rules.specs.Payloads.{wanted}

-- Sessions

-- has the device a session?
unfoldable pub in_session : List Rec → DeviceAddress → Bool
in_session ss d = any (addressed d.0) (used ss)

-- does the change add a record, or take one away?
unfoldable pub alters : Change → List Rec → Bool
alters none t = false
alters (store r) t = true
alters (wipe q) t = any q (used t)

-- "any change to the bind table closes all sessions"
unfoldable pub closing : Tables → Effect → Effect
closing T x = cond (alters (x Binds) (T Binds)) (also Sessions (wipe (λ r. true)) x) x

-- Entries

-- a start index of 16 bits and a number of entries (document 000, Table 50)
abbrev pub index_length : ℕ
index_length = 2 + 1

abbrev pub filter_length : Filter → ℕ
filter_length Index = index_length
filter_length (Part q) = part_length q

-- what stands before the entries: the code, and their number (document 000, Table 52)
abbrev pub entries_place : ℕ
entries_place = 2

-- "as many whole ones as a payload of 485 octets holds"
abbrev pub most_entries : ℕ
most_entries = (longest - header_length - entries_place) / size Binds

-- the first n that pass of the used records from number i on, counted from 0 in table order
unfoldable pub chosen : ℕ → ℕ → (Rec → Bool) → List Rec → List Rec
chosen i n q t = take n (keep q (drop i (used t)))

-- the binds that a read gives: by index those from its start index on, as many as asked and as fit; by a part the first that match as a removal matches
unfoldable pub entries_by : Filter → List ℕ → List Rec → List Rec
entries_by Index p bs = chosen (word 0 p) (min (octet 2 p) most_entries) (λ b. true) bs
entries_by (Part q) p bs = chosen 0 most_entries (part_is q (wanted q p)) bs

-- behind the code: how many, and each as it is stored
unfoldable pub listing : List Rec → List ℕ
listing es = length es ∷ bytes es
