-- How much of a settings file is read.
use Rattle.std.specs.Prelude.{ℕ}

-- in bytes: a longer file is refused unread, so that none takes more than about 200 MB or a second
abbrev pub settings_most : ℕ
settings_most = 1_048_576
