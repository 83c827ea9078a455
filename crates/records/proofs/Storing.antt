-- An addition: the first free record takes the new one.
use Rattle.std.specs.Prelude.{Option, Some, None}
use Rattle.words.specs.Basics.{◌≡◌, refl, Bool, true, false, List, ℕ, zero, suc}
use Rattle.words.specs.Basics.{◌+◌, ◌-◌, ◌%◌, ◌<◌, ◌≤◌, arith, leb, leb-true, leb-false, length, take, drop, sets}
use Rattle.rules.specs.Tables.{Rec, records, bytes, is_free, put}
use Rattle.rules.proofs.Records.{records-at, records_end, Changing, changing_start, changing_miss, changing_end, put_miss, put_end, put-done}
use Rattle.records.specs.Search.{place_of}

-- the octets t with r at a place, where there is one
abbrev pub stored : Rec → List ℕ → Option ℕ → List ℕ
stored r t None = t
stored r t (Some at) = sets t at r

module _ (r : Rec) (k : ℕ) (t : List ℕ) (some : 0 < k) (long : length r ≡ k) where
  -- r at the first free place from `at` on is what the addition leaves
  abbrev Done : ℕ → Type 0
  Done at = stored r t (place_of at k is_free (records k (drop at t))) ≡ bytes (put r (records k t))

  last : {at : ℕ} → Changing (put r) k t t at → length t - at < k → Done at
  unfolding place_of
  last {at} c l = rw (records_end k at t l) (changing_end c l (put_end r))

  from : (n at : ℕ) → length t - at ≤ n → Changing (put r) k t t at → Done at
  unfolding place_of
  from zero at h c = last c (omega arith)
  from (suc n) at h c =
      elim (leb (at + k) (length t)) as (λ b. leb (at + k) (length t) ≡ b → Done at) [
        | true ↦ λ l. step (leb-true _ _ l) (from n (at + k) (let q = leb-true _ _ l in omega arith)) (is_free (take k (drop at t))) refl
        | false ↦ λ l. last c (omega (arith, leb-false _ _ l))
      ] refl
    where
      step : at + k ≤ length t → (Changing (put r) k t t (at + k) → Done (at + k)) → (b : Bool) → is_free (take k (drop at t)) ≡ b → Done at
      step l ih true e = rw (records-at k at t some l, e) (put-done r long c some l e)
      step l ih false e = rw (records-at k at t some l, e) (ih (changing_miss c some l (put_miss r _ _ e) refl))

  pub put-place : length t % k ≡ 0 → Done 0
  put-place h = from (length t) 0 (omega arith) (changing_start h)
