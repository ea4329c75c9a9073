-- Which file a name means.
use Rattle.std.specs.Prelude.{List, codes, if◌then◌else◌, ℕ}
use Rattle.std.specs.Str.{bytes_eq}

-- the path of a file: `-` is standard input
abbrev pub path_to : List ℕ → List ℕ
path_to file = if bytes_eq file (codes "-") then codes "/dev/stdin" else file
