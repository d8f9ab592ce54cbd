-- How many strings a stream holds, and what a visitor that counts them makes of an event.
use Rattle.std.specs.Prelude.{◌≡◌, ℕ, ◌+◌, List}
use Rattle.std.specs.List.{sum_by}
use Rattle.ion_model.specs.declared.value.Value.{Value}
use Rattle.ion_model.specs.declared.value.Payload.TheVariants as payloads
use Rattle.ion_visiting.specs.Events.{Event, part, stream_events}
use Rattle.ion_example.specs.declared.uses.counting.Strings.{Strings}

abbrev pub is_string : Event → ℕ
is_string (part (payloads.Str text)) = 1
is_string e = 0

abbrev pub strings_of : List Value → ℕ
strings_of s = sum_by is_string (stream_events s)

abbrev pub counts : Strings → Event → Strings → Type 0
counts a e b = b.count ≡ a.count + is_string e
