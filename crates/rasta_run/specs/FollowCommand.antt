-- What `follow` reads of a capture, and how it ends.
use Rattle.std.specs.Prelude.{ℕ, Bool, true, false, List, Option, Some, None}
use Rattle.capture_text.specs.declared.course.FollowOptions.{FollowOptions}
use Rattle.capture_text.specs.declared.course.OutputForm.{OutputForm}
use Rattle.capture_text.specs.declared.course.OutputForm.TheVariants.{Lines, Json, Events}
use Rattle.capture_text.specs.declared.capture_run.FollowStatus.{FollowStatus}
use Rattle.capture_text.specs.declared.capture_run.FollowStatus.TheVariants as follow
use Rattle.rasta_words.specs.declared.status.Status.{Status}
use Rattle.rasta_words.specs.declared.status.Status.TheVariants.{Done, Refused, Failed}
use Rattle.rasta_words.specs.declared.command_line.FollowRequest.{FollowRequest}

-- the form of the output: `--events` prints the summary of `--json`, too
abbrev pub form_of : Bool → Bool → OutputForm
form_of json true = Events
form_of true false = Json
form_of false false = Lines

-- each choice of `follow`, with the words of the initial value
abbrev pub options_of : FollowRequest → List ℕ → FollowOptions
options_of f words =
    record {
      rule = record { length = f.code; initial_value = words };
      only = f.only;
      t_max = f.t_max;
      messages = f.messages;
      ports = f.ports;
      form = form_of f.json f.events;
      time = f.times.form;
      span = f.times.span;
      every = f.times.every;
      choose = f.choose;
    }

-- the same, if there are such words
abbrev pub options_under : FollowRequest → Option (List ℕ) → Option FollowOptions
options_under f (Some words) = Some (options_of f words)
options_under f None = None

-- a line that is not a datagram, want of memory and a reader that fails refuse a capture; an output that fails is the
-- system's fault, but not one that its reader has closed
abbrev pub end_of : FollowStatus → Status
end_of follow.Done = Done
end_of follow.Unread = Done
end_of follow.Unreadable = Refused
end_of follow.Memory = Refused
end_of follow.File = Refused
end_of follow.Output = Failed
