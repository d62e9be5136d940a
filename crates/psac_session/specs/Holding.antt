-- The places of a session, by the handles that they hold and the names of these.
use Rattle.std.specs.Prelude.{◌≡◌, Bool, false, if◌then◌else◌, List, [], ◌∷◌, Option, Some, None, map, option_map, replicate}
use Rattle.psac_ops.specs.declared.plain.Handle.{Handle}
use Rattle.psac_ops.specs.Named.{same_handle}
use Rattle.psac_model.specs.Names.{Path, Name, Made}
use Rattle.psac_naming.specs.Naming.{Naming}
use Rattle.psac_report.specs.Session.{Place, Holding, Gone, place_count}

-- the name of a handle, if it has one
abbrev pub name_among : Naming Handle → Handle → Option Name
name_among [] m = None
name_among (p ∷ ns) m = if same_handle p.0 m then Some p.1 else name_among ns m

abbrev pub place_of : Option Name → Place
place_of None = Gone
place_of (Some n) = Holding n

-- what a place is in which a handle is held: a handle without a name is stale
abbrev pub place_among : Naming Handle → Handle → Place
place_among ns m = place_of (name_among ns m)

abbrev pub places_among : Naming Handle → List (Option Handle) → List (Option Place)
places_among ns held = map (option_map (place_among ns)) held

-- no place holds anything
unfoldable pub none_held : List (Option Handle)
none_held = replicate place_count None

-- a handle that is held without a name never gets one any more
abbrev pub IsKnown : Naming Handle → (Handle → Type 0) → Option Handle → Type 0
IsKnown ns Outlived None = Unit {0}
IsKnown ns Outlived (Some m) = name_among ns m ≡ None → Outlived m

abbrev pub AreKnown : Naming Handle → (Handle → Type 0) → List (Option Handle) → Type 0
AreKnown ns Outlived [] = Unit {0}
AreKnown ns Outlived (x ∷ held) = IsKnown ns Outlived x × AreKnown ns Outlived held

-- what was made at the paths that are dropped
abbrev pub made_where : (Path → Bool) → Name → Bool
made_where drop (Made p) = drop p
made_where drop n = false
