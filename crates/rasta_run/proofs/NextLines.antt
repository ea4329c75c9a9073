-- The next line of an input.
use Rattle.std.proofs.Common.{◌≡◌, ℕ, Bool, true, List, Option, Some, subst, sym, refl}
use Rattle.settings_file.specs.Groups.{put_seen}
use Rattle.settings_file.specs.declared.values.PutEntry.{PutEntry as Telegram}
use Rattle.rasta_run.specs.InputLines.{Input, ReadsLine, line_count_after, rest_after_line}

-- a telegram was read, and the bytes after its line are left
pub reads-telegram : (line : Option (Option (ℕ × List ℕ))) (ended : Bool) (s : Input) (p : Telegram) (x : List ℕ)
    (y : ℕ) → line ≡ Some (Some (put_seen p))
    → x ≡ rest_after_line ended s.octets → y ≡ line_count_after ended s.octets s.cut
    → ReadsLine line ended s true (record { next = Some p; octets = x; cut = y; unread = s.unread })
reads-telegram line ended s p x y is left cut =
    subst (λ l. ReadsLine l ended s true (record { next = Some p; octets = x; cut = y; unread = s.unread })) (sym is)
    (subst (λ o. ReadsLine (Some (Some (put_seen p))) ended s true
    (record { next = Some p; octets = o; cut = y; unread = s.unread })) (sym left)
    (subst (λ k. ReadsLine (Some (Some (put_seen p))) ended s true
    (record { next = Some p; octets = rest_after_line ended s.octets; cut = k; unread = s.unread }))
    (sym cut) (p, refl, refl, refl)))
