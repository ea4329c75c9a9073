-- What `check` has done.
use Rattle.std.specs.Prelude.{◌≡◌, ℕ, true, List, Option, Some, None, Result, Ok, Err}
use Rattle.std.specs.Option.{option_map_or}
use Rattle.std.specs.Io.KnownBytes.{Appends}
use Rattle.toml.specs.Parse.{parse_document}
use Rattle.settings_file.specs.declared.keys.SettingsFault.{SettingsFault}
use Rattle.settings_file.specs.declared.keys.SettingsFault.TheVariants as fault
use Rattle.settings_file.specs.declared.Subcommand.TheVariants as word
use Rattle.rasta_run.specs.Matching.{are_matching}
use Rattle.settings_file.specs.FileContents.{EndsSeen, SettingsSeen, il_seen, fe_seen, Wrong, ends_of, no_document, word_of_members}
use Rattle.settings_text.specs.InForce.{settings_text}

-- the settings of a text for the word that its keys show, or its first fault
abbrev pub check_result_of : List ℕ → Result EndsSeen Wrong
check_result_of text = option_map_or (λ ms. ends_of (word_of_members ms) text) (parse_document text) (Err no_document)

-- the settings of the text were written
pub record HasChecked (text : List ℕ) (old new : Option (List ℕ)) : Type 0 where
  -- the settings
  pub ends : EndsSeen
  -- the text has these settings for the word that its keys show
  pub read : check_result_of text ≡ Ok ends
  -- their lines were appended
  pub written : Appends old new (settings_text ends)

-- the settings of some text were written: no contract can name the text of a file
pub record HasCheckedSome (old new : Option (List ℕ)) : Type 0 where
  -- the text
  pub text : List ℕ
  -- its settings were written
  pub checked : HasChecked text old new

-- the texts have settings of an interlocking and a field element that fit together
pub record HasCompared (il_text fe_text : List ℕ) : Type 0 where
  -- the settings of the interlocking
  pub il : SettingsSeen
  -- those of the field element
  pub fe : SettingsSeen
  pub il_read : ends_of word.Il il_text ≡ Ok (il_seen il)
  pub fe_read : ends_of word.Fe fe_text ≡ Ok (fe_seen fe)
  pub matched : are_matching il.config fe.config ≡ true

-- some texts have them: no contract can name the text of a file
pub record HasComparedSome : Type 0 where
  pub il_text : List ℕ
  pub fe_text : List ℕ
  pub compared : HasCompared il_text fe_text

-- the line of a fault: known of a text that is not TOML
abbrev pub line_of : SettingsFault → Option ℕ
line_of (fault.Document line) = Some line
line_of _ = None
