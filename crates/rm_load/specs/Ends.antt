-- How a load ends: what each answer says of the octets written and of the count of faults.
use Rattle.std.specs.Prelude.{ℕ, Result, Ok, Err}
use Rattle.rm_edge.specs.Outside.{Adds, AddsFront}
use Rattle.rm_edge.specs.Uses.{SinkUse, HasPutFault, IsUntouched}
use Rattle.rm_settings.specs.declared.settings.Settings.{Settings}
use Rattle.rm_load.specs.declared.entry.LoadFault.{LoadFault}
use Rattle.rm_load.specs.declared.entry.LoadFault.TheVariants.{NoMemory, Put}
use Rattle.rm_load.specs.Text.{text_of}

-- The text is added to the octets written, or a front of it where a put failed. Without memory nothing is.
abbrev pub Ends : {T : Type 0} → Settings → (start count : ℕ) → SinkUse → Result T LoadFault → Type 0
Ends settings start count out (Ok done) = Adds out.content out.content_after (text_of settings start count)
Ends settings start count out (Err Put) = HasPutFault out × AddsFront out.content out.content_after (text_of settings start count)
Ends settings start count out (Err NoMemory) = IsUntouched out
