-- The communities that the probe is set to.
use Rattle.std.specs.Prelude.{ℕ, Bool, ◌||◌, List}
use Rattle.std.specs.Str.{bytes_eq}
use Rattle.rm_settings.specs.declared.settings.Settings.{Settings}

-- whether a community is answered: it is the read or the write community
abbrev pub is_known : Settings → List ℕ → Bool
is_known settings community = bytes_eq community settings.read.items || bytes_eq community settings.write.items

-- whether a community may write: it is the write community, whether or not it is the read community too
abbrev pub may_write : Settings → List ℕ → Bool
may_write settings community = bytes_eq community settings.write.items
