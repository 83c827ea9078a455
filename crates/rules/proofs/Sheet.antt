-- What is read back is the sheet: after any run, a granted Start counts the binds that stand by history, and a granted read gives those of them that it
-- asks for, each once, as long as its session was not started anew.
use lib.Seq.{take_at}
use Rattle.words.specs.Basics.{◌≡◌, refl, sym, ap, ◌∙◌, true, List, [], ◌∷◌, ◌++◌, ℕ, suc, ◌+◌, ◌*◌, ◌≤◌, min, arith, length, take, drop}
use Rattle.words.specs.Basics.{not, ◌&&◌, take_all, drop-drop, drop_of_length-le, take-append-drop}
use Rattle.words.specs.Names.{ok}
use Rattle.rules.specs.Types.{DeviceAddress, BindPart, StartSession, GetEntries, Filter, Index, Part, Binds, Sessions}
use Rattle.rules.specs.Lists.{count, all, keep}
use Rattle.rules.specs.Octets.{octet, word, octets, octet_string}
use Rattle.rules.specs.Tables.{Rec, bytes, records, is_free, used}
use Rattle.rules.specs.Layout.{size, part_is}
use Rattle.rules.specs.Frame.{Lent, tables}
use Rattle.rules.specs.Message.{fields, payload}
use Rattle.rules.specs.Sound.{distinct, sound_table}
use Rattle.rules.specs.Payloads.{wanted}
use Rattle.rules.specs.Sessions.{in_session, filter_length, entries_place, most_entries, chosen, entries_by, listing}
use Rattle.rules.specs.Commands.{session_or, judge}
use Rattle.rules.specs.History.{sends, said, after, history, octets_only, bind_named, has_page, standing}
use Rattle.rules.specs.Sheet.{bind_count, entries_read, read_of, IsTheSheet, SameRecords}
use Rattle.rules.proofs.Lists.{split, pass, count-keep, length-kept, keep_all, keep_alike, all_append}
use Rattle.rules.proofs.Records.{Each, each-records, records-bytes, length-bytes}
use Rattle.rules.proofs.Words.{shaped}
use Rattle.rules.proofs.Numbers.{bind_named_lem}
use Rattle.rules.proofs.Changes.{all-used, shaped-records}
use Rattle.rules.proofs.Kept.{Sane, sound-at}
use Rattle.rules.proofs.Standing.{Agree}
use Rattle.rules.proofs.Judged.{no_session, passed}
use Rattle.rules.proofs.Entries.{within_all, within-keep, within-take, within-distinct, entries_by_lem}
use Rattle.rules.proofs.Steps.{Reply, granted-reply, octets-payload}
use Rattle.rules.proofs.Run.{held_run}
use Rattle.rules.proofs.Closed.{same-binds}

-- What a reply says

-- the two octets of a number, behind the code
count-said : (n : ℕ) (rest : List ℕ) → word 1 (ok.0 ∷ (octets n ++ rest)) ≡ n
unfolding word octets
count-said n rest = omega arith

-- so many records behind their number
entries-said : (es : List Rec) (rest : List ℕ) → Each (size Binds) es → records (size Binds) (take (length es * size Binds) (bytes es ++ rest)) ≡ es
entries-said es rest e =
    rw (take_at (bytes es) rest (length es * size Binds) (length-bytes (size Binds) es e)) (records-bytes (size Binds) es (omega arith) e)

-- the records of a list, counted
count-all : (l : List Rec) → count (λ r. true) l ≡ length l
unfolding count
count-all [] = refl
count-all (r ∷ l) = ap suc (count-all l)

-- One command on these tables

module _ (L : Lent) (S : Sane L) where
  abbrev binds : List Rec
  binds = tables L Binds

  shapes : all (shaped (size Binds)) (used binds) ≡ true
  shapes = all-used (shaped (size Binds)) binds (shaped-records (size Binds) L.binds (S.octets Binds))

  pub once-used : distinct (size Binds) (used binds) ≡ true
  unfolding sound_table used
  once-used = within-distinct (size Binds) (within-keep (λ r. not (is_free r)) (within_all binds)) (split (sound-at L S.sound Binds)).1

  -- a read was granted: its device has a session, and its payload the length of its filter
  read-granted : (s : DeviceAddress) (f : Filter) (p : List ℕ) → judge (tables L) s (GetEntries f) p ≡ ok
      → (in_session (tables L Sessions) s ≡ true) × (length p ≡ filter_length f)
  unfolding session_or
  read-granted s f p j =
      let c = passed (tables L) s (GetEntries f) p j in
      ((pass no_session c.verdict).0, c.length)

  -- its reply says the entries that the tables give
  read-said : (m r l : List ℕ) (f : Filter) → Reply L m r l (GetEntries f) → entries_read (said L (sends m r l)) ≡ entries_by f (payload m) binds
  unfolding entries_read said listing sound_table
  read-said m r l f a =
      let es : List Rec = entries_by f (payload m) binds in
      let e = entries_by_lem f (payload m) binds (each-records (size Binds) L.binds) (split (sound-at L S.sound Binds)).1 in
      ap (λ (p : List ℕ). records (size Binds) (take (octet 1 p * size Binds) (drop entries_place p))) a.says ∙ entries-said es a.rest e.whole

  -- and these are those that it asks for, in numbers
  read_numbers : (f : Filter) (p : List ℕ) → octet_string p ≡ true → length p ≡ filter_length f → entries_by f p binds ≡ read_of f p (used binds)
  unfolding entries_by read_of chosen
  read_numbers Index p o l = ap (take (min (octet 2 p) most_entries)) (keep_all (drop (word 0 p) (used binds)))
  read_numbers (Part q) p o l =
      ap (take most_entries) (keep_alike (shaped (size Binds)) (part_is q (wanted q p)) (bind_named q p) (bind_named_lem p o q l) (used binds) shapes)

  start-said : (m r l : List ℕ) → Reply L m r l StartSession → bind_count (said L (sends m r l)) ≡ length (used binds)
  unfolding bind_count said
  start-said m r l a = ap (word 1) a.says ∙ count-said (length (used binds)) a.rest

-- After any run

pub is_the_sheet : IsTheSheet
unfolding Agree has_page
is_the_sheet L f cs o =
    let H = held_run L f cs o in
    let bs : List Rec = tables (after L cs) Binds in
    record {
      sheet = used bs;
      stands = H.pages Binds refl;
      once = once-used (after L cs) H.sane;
      counts = λ m r l om c g.
          start-said (after L cs) H.sane m r l (granted-reply (after L cs) m r l StartSession c g)
          ∙ sym (count-all (used bs)) ∙ H.pages Binds refl (λ r. true) ∙ count-all (standing Binds (history L cs));
      reads = λ later i m r l ol n om c g.
          let os : all octets_only (later ++ cs) ≡ true = all_append octets_only later cs ol o in
          let S = (held_run L f (later ++ cs) os).sane in
          let M : Lent = after L (later ++ cs) in
          let a = granted-reply M m r l (GetEntries i) c g in
          let w = read-granted M S (fields m).source i (payload m) a.judged in
          read-said M S m r l i a ∙ read_numbers M S i (payload m) (octets-payload m om) w.1
          ∙ ap (λ (t : List ℕ). read_of i (payload m) (used (records (size Binds) t))) (same-binds L f later cs (fields m).source os n w.0);
    }

-- What a fitter does with it

-- by address, where no more stand that the read names than fit, the entries are those, each once
pub all_named : (sheet standing : List Rec) (q : BindPart) (p : List ℕ) → SameRecords sheet standing → distinct (size Binds) sheet ≡ true
    → length (keep (bind_named q p) standing) ≤ most_entries
    → SameRecords (read_of (Part q) p sheet) (keep (bind_named q p) standing) × (distinct (size Binds) (read_of (Part q) p sheet) ≡ true)
unfolding read_of
all_named sheet standing q p s d n = (same, within-distinct (size Binds) (within-take most_entries (within-keep (bind_named q p) (within_all sheet))) d)
  where
    few : length (keep (bind_named q p) sheet) ≤ most_entries
    few = omega (arith, n, length-kept (bind_named q p) sheet, s (bind_named q p), length-kept (bind_named q p) standing)

    same : SameRecords (take most_entries (keep (bind_named q p) sheet)) (keep (bind_named q p) standing)
    same w =
        rw (take_all most_entries (keep (bind_named q p) sheet) few)
        (count-keep w (bind_named q p) sheet ∙ s (λ x. bind_named q p x && w x) ∙ sym (count-keep w (bind_named q p) standing))

-- by index: reads with these payloads, each from where the one before it ended
abbrev pub InTurn : ℕ → List (List ℕ) → Type 0
InTurn i [] = Unit {0}
InTurn i (p ∷ ps) = (word 0 p ≡ i) × InTurn (i + min (octet 2 p) most_entries) ps

-- what they give, and how many they may give
abbrev pub pages : List (List ℕ) → List Rec → List Rec
pages [] sheet = []
pages (p ∷ ps) sheet = read_of Index p sheet ++ pages ps sheet

abbrev pub total : List (List ℕ) → ℕ
total [] = 0
total (p ∷ ps) = min (octet 2 p) most_entries + total ps

-- .. together the sheet, once they are as many as it has
pub all-pages : (i : ℕ) (ps : List (List ℕ)) (sheet : List Rec) → InTurn i ps → length sheet ≤ i + total ps → pages ps sheet ≡ drop i sheet
unfolding read_of
all-pages i [] sheet t h = let l : length sheet ≤ i = omega arith in sym (drop_of_length-le sheet l)
all-pages i (p ∷ ps) sheet t h =
    let n : ℕ = min (octet 2 p) most_entries in
    rw (t.0, all-pages (i + n) ps sheet t.1 (omega arith), ← drop-drop n i sheet) (take-append-drop n (drop i sheet))
