-- Events that are such as the types keep: texts are UTF-8, numbers are in range, and what lobs hold are octets.
use Rattle.std.specs.Prelude.{List, [], ◌∷◌, ⊤}
use Rattle.ion_visiting.specs.Names.{Event, IsText, KeptPayload, annotation, name, part}

-- what is told is such as the types keep
abbrev pub KeptEvent : Event → Type 0
KeptEvent (part p) = KeptPayload p
KeptEvent (annotation s) = IsText s
KeptEvent (name s) = IsText s
KeptEvent _ = ⊤

-- so each of these
abbrev pub AreKeptEvents : List Event → Type 0
AreKeptEvents [] = ⊤
AreKeptEvents (e ∷ es) = KeptEvent e × AreKeptEvents es
