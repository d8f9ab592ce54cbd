use Rattle.std.proofs.Common.{◌≡◌, take}
use Rattle.ion_model.proofs.copy.+copy.Given as goal

abbrev pub invariant-copy_items-loop-item : goal.invariant-copy_items-loop-item
invariant-copy_items-loop-item l = l.copies.items ≡ take l.item-index l.item-items

abbrev pub invariant-copy_fields-loop-field : goal.invariant-copy_fields-loop-field
invariant-copy_fields-loop-field l = l.copies.items ≡ take l.field-index l.field-items
