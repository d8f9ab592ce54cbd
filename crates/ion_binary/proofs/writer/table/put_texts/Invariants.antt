use Rattle.std.proofs.Common.{◌≡◌, ◌≤◌, ◌++◌, drop, length}
use Rattle.std.specs.List.{flat_map}
use Rattle.ion_binary.specs.Names.{framed, name_text}
use Rattle.ion_binary.proofs.writer.table.put_texts.Given as goal

-- the texts so far and those that are left are all
abbrev pub invariant-loop-name : goal.invariant-loop-name
invariant-loop-name l = record {
  octets : l.out.items ++ flat_map (λ s. framed 8 (name_text s)) (drop l.name-index l.names) ≡ l.initial.out.items
      ++ flat_map (λ s. framed 8 (name_text s)) l.names;
  grown : length l.initial.out.items ≤ length l.out.items;
}
