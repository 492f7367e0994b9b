-- Versions of cells, and how they are linked.
use Rattle.std.specs.Prelude.{◌≡◌, ◌≢◌, ◌⊎◌, ℕ, ◌+◌, ◌≤◌, ◌<◌, List, Option, Some, None, Bool, true, false, length, slice_index, slice_index_or}
use Rattle.jr_base.specs.declared.value.Value.{Value}
use Rattle.jr_version_heap.specs.declared.version.Past.{Past}
use Rattle.jr_version_heap.specs.declared.version.Version.{Version}
use Rattle.jr_version_heap.specs.declared.version.Home.{Home}
use Rattle.jr_version_heap.specs.declared.version.Home.TheVariants.{Newest, Loose, Dead, Pending}

-- the version under a key
abbrev pub version_in : List (Option Version) → ℕ → Option Version
version_in slots k = slice_index_or slots k None

abbrev pub is_newest : Home → Bool
is_newest Newest = true
is_newest Loose = false
is_newest (Dead p) = false
is_newest Pending = false

abbrev pub is_pending : Home → Bool
is_pending Newest = false
is_pending Loose = false
is_pending (Dead p) = false
is_pending Pending = true

-- a version serves the stamps from its first through its last
pub record Serves (v : Version) (stamp : ℕ) : Type 0 where
  pub since : v.since ≤ stamp
  pub upto : stamp ≤ v.upto

-- a cell's newest version
pub record IsFront (slots : List (Option Version)) (k at : ℕ) : Type 0 where
  pub version : Version
  pub is : version_in slots k ≡ Some version
  pub home : is_newest version.home ≡ true
  pub place : version.place ≡ at

-- v, under the key k, has the version under the key j before it
pub record IsOlder (slots : List (Option Version)) (k : ℕ) (v : Version) (j : ℕ) : Type 0 where
  pub version : Version
  pub is : version_in slots j ≡ Some version
  pub stands : is_pending version.home ≡ false
  pub place : version.place ≡ v.place
  pub before : version.upto < v.since
  pub back : version.newer ≡ Some k

-- v, under the key k, has a version behind it
pub record IsNewer (slots : List (Option Version)) (k : ℕ) (v : Version) : Type 0 where
  pub key : ℕ
  pub link : v.newer ≡ Some key
  pub version : Version
  pub is : version_in slots key ≡ Some version
  pub stands : is_pending version.home ≡ false
  pub place : version.place ≡ v.place
  pub back : version.older ≡ Some k

-- the link leads to a version that is no older than w
pub record IsClosest (slots : List (Option Version)) (link : Option ℕ) (w : Version) : Type 0 where
  pub key : ℕ
  pub link_is : link ≡ Some key
  pub version : Version
  pub is : version_in slots key ≡ Some version
  pub least : w.since ≤ version.since

-- Each cell has a chain of versions, from the newest backwards. Those that are pending stand in no chain.
pub record IsChained (newest : List ℕ) (slots : List (Option Version)) (past : Past) : Type 0 where
  pub short : past.changes ≤ 4294967296
  pub writes : past.writes ≤ past.changes
  pub front : (place : ℕ) → place < length newest → IsFront slots (slice_index newest place) place
  pub placed : (k : ℕ) (v : Version) → version_in slots k ≡ Some v → v.place < length newest
  pub alone : (k : ℕ) (v : Version) → version_in slots k ≡ Some v → is_newest v.home ≡ true → slice_index newest v.place ≡ k
  pub forever : (k : ℕ) (v : Version) → version_in slots k ≡ Some v → is_newest v.home ≡ true → v.upto ≡ 18446744073709551615
  pub made : (k : ℕ) (v : Version) → version_in slots k ≡ Some v → v.since ≤ past.changes
  pub span : (k : ℕ) (v : Version) → version_in slots k ≡ Some v → is_newest v.home ≡ false → (v.since ≤ v.upto) × (v.upto < past.writes)
  -- two versions of a cell serve no common stamp
  pub apart : (k j : ℕ) (v w : Version) → version_in slots k ≡ Some v → version_in slots j ≡ Some w → k ≢ j → v.place ≡ w.place
      → (v.upto < w.since) ⊎ (w.upto < v.since)
  pub older : (k j : ℕ) (v : Version) → version_in slots k ≡ Some v → is_pending v.home ≡ false → v.older ≡ Some j → IsOlder slots k v j
  pub newer : (k : ℕ) (v : Version) → version_in slots k ≡ Some v → is_pending v.home ≡ false → is_newest v.home ≡ false → IsNewer slots k v
  -- no version of the chain stands between
  pub closest : (k j : ℕ) (v w : Version) → version_in slots k ≡ Some v → version_in slots j ≡ Some w → is_pending v.home ≡ false → is_pending w.home ≡ false
      → v.place ≡ w.place → w.upto < v.since → IsClosest slots v.older w

-- the first stamp that the version under a key serves
abbrev pub since_of : Option Version → ℕ
since_of None = 0
since_of (Some v) = v.since

-- a walk from the newest version backwards has come to a key, and no further than what the stamp shows
pub record IsReached (slots : List (Option Version)) (at : ℕ) (stamp k : ℕ) : Type 0 where
  pub version : Version
  pub is : version_in slots k ≡ Some version
  pub stands : is_pending version.home ≡ false
  pub place : version.place ≡ at
  pub behind : (j : ℕ) (v : Version) → version_in slots j ≡ Some v → v.place ≡ at → is_pending v.home ≡ false → Serves v stamp → v.since ≤ version.since

-- ---- changes of chains

-- the greatest stamp of all
abbrev pub LAST : ℕ
LAST = 18446744073709551615

abbrev pub newest_version : ℕ → Value → ℕ → ℕ → Version
newest_version place value at older =
    record { place = place; value = value; since = at + 1; upto = LAST; home = Newest; older = Some older; newer = None; next = None }

-- The key n has a new version of that cell, in front of the one under r, which step `at` replaced.
pub record IsAdvanced (old new : List (Option Version)) (r n place at : ℕ) (value : Value) : Type 0 where
  pub fresh : version_in old n ≡ None
  pub front : version_in new n ≡ Some (newest_version place value at r)
  pub was : Version
  pub was_is : version_in old r ≡ Some was
  pub was_newest : is_newest was.home ≡ true
  pub was_place : was.place ≡ place
  pub now : version_in new r ≡ Some (record was { upto = at; home = Loose; newer = Some n; next = None })
  pub others : (k : ℕ) → k ≢ n → k ≢ r → version_in new k ≡ version_in old k

-- a version that now has this one behind it
pub record IsRelinked (old new : List (Option Version)) (newer : Option ℕ) (j : ℕ) : Type 0 where
  pub version : Version
  pub is : version_in old j ≡ Some version
  pub now : version_in new j ≡ Some (record version { newer = newer })

-- The version under a key is pending. Its neighbours are linked to one another.
pub record IsUnlinked (old new : List (Option Version)) (key : ℕ) : Type 0 where
  pub version : Version
  pub is : version_in old key ≡ Some version
  pub now : version_in new key ≡ Some (record version { home = Pending })
  pub behind : ℕ
  pub link : version.newer ≡ Some behind
  pub newer : Version
  pub newer_is : version_in old behind ≡ Some newer
  pub newer_now : version_in new behind ≡ Some (record newer { older = version.older })
  pub older : (j : ℕ) → version.older ≡ Some j → IsRelinked old new version.newer j
  pub others : (k : ℕ) → k ≢ key → k ≢ behind → (version.older ≡ Some k → ⊥) → version_in new k ≡ version_in old k

-- a version of a chain that isn't the newest
pub record IsBehind (slots : List (Option Version)) (key : ℕ) : Type 0 where
  pub version : Version
  pub is : version_in slots key ≡ Some version
  pub stands : is_pending version.home ≡ false
  pub behind : is_newest version.home ≡ false

-- ---- new cells

abbrev pub first_version : ℕ → Value → ℕ → Version
first_version place value since =
    record { place = place; value = value; since = since; upto = LAST; home = Newest; older = None; newer = None; next = None }

-- the key has the first version of a new cell
pub record HasFirst (old new : List (Option Version)) (key place : ℕ) (value : Value) (since : ℕ) : Type 0 where
  pub fresh : version_in old key ≡ None
  pub first : version_in new key ≡ Some (first_version place value since)
  pub others : (k : ℕ) → k ≢ key → version_in new k ≡ version_in old k

-- the first so many values are those of new cells, from that place on, and each version that was there is there still
pub record HasFirsts (old new : List (Option Version)) (start : ℕ) (values : List Value) (since n : ℕ) : Type 0 where
  pub kept : (k : ℕ) (v : Version) → version_in old k ≡ Some v → version_in new k ≡ Some v
  pub firsts : (i : ℕ) (d : Value) → i < n → (key : ℕ) × (version_in new key ≡ Some (first_version (start + i) (slice_index_or values i d) since))
