-- The text of each code.
use Rattle.std.specs.Prelude.{ℤ, pos, negsuc, ℕ, ◌==◌, if◌then◌else◌, List, codes}

-- the text of any number that is not a code
abbrev pub no_such_code : List ℕ
no_such_code = codes "no such code"

-- the texts of codes from 0 on
abbrev pub text_of_done : ℕ → List ℕ
text_of_done n =
    if n == 0 then codes "done"
    else if n == 1 then codes "nothing waits, or there is no deadline"
    else if n == 2 then codes "done, but a datagram had no room: it is lost as on the network, and counted"
    else if n == 3 then codes "an end opens with these settings, but works badly: bek_settings_fault names the reason"
    else no_such_code

-- the texts of codes below 0; 0 here is the code -1
abbrev pub text_of_refused : ℕ → List ℕ
text_of_refused n =
    if n == 0 then codes "a pointer is null"
    else if n == 1 then codes "a length is above PTRDIFF_MAX"
    else if n == 2 then codes "the bek_end is not open: bek_open was not called, or failed, or bek_free was called"
    else if n == 3 then codes "the bek_end is open already"
    else if n == 4 then codes "the size of the settings is not one of this library's: call bek_settings_init first"
    else if n == 5 then codes "the settings are invalid: bek_settings_fault names the wrong one"
    else if n == 6 then codes "telegram_room or datagram_room is too small"
    else if n == 7 then codes "out of memory"
    else if n == 8 then codes "the time is before that of the last accepted call, or above 2^62"
    else if n == 9 then codes "too many telegrams wait: take them first"
    else if n == 10 then codes "too many datagrams wait: take and send them first"
    else if n == 11 then codes "a telegram had no room: take those that wait, then call bek_reopen"
    else if n == 12 then codes "the buffer is too small"
    else if n == 13 then codes "the session is not in a phase in which this end may put"
    else if n == 14 then codes "64 messages wait: put again later"
    else if n == 15 then codes "the kind is one of the five of the session's establishment, 0x0021 to 0x0025"
    else if n == 16 then codes "the payload has more than 357 octets"
    else if n == 17 then codes "this end is not a field element in BEK_INITIALISING"
    else if n == 18 then codes "the text is not a settings file of this side"
    else if n == 19 then codes "this processor lacks instructions that the library needs"
    else if n == 20 then codes "this bek_end is a copy: use the one that bek_open was given"
    else no_such_code

-- the text of a code
abbrev pub text_of : ℤ → List ℕ
text_of (pos n) = text_of_done n
text_of (negsuc n) = text_of_refused n
