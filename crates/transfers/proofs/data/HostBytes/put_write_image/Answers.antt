-- The host bytes that are counted, filled to the count, are the record.
-- Assumes nothing.
use Rattle.std.proofs.Common.{ℕ, List, take, sym, ap, ◌∙◌}
use Rattle.records.specs.Image.{image_length, image_of}
use Rattle.transfers.specs.Data.{host_with}
use Rattle.transfers.proofs.DataLaws.{record_image_length, record_part, image_overwritten}
use Rattle.transfers.proofs.data.HostBytes.put_write_image.Goals as goal

pub returns-clause-value : goal.returns-clause-value
returns-clause-value c =
    let store = c.args.store in
    let host = host_with c.args.self.now in
    let density = c.args.density in
    c.image_length-needed.ensures ∙ ap (λ (k : ℕ). image_length k density) c.held_count-count.ensures
    ∙ sym (record_image_length store host density)

pub returns-clause-space_after : goal.returns-clause-space_after
returns-clause-space_after c =
    let store = c.args.store in
    let host = host_with c.args.self.now in
    let front = ap (λ (n : ℕ). take n host.bytes) c.as_came.ensures.counted in
    let is_record =
    record_part store host _ _ _ _ front c.held_count-count.ensures c.min-from.ensures c.min-end.ensures
    in
    let is_image = c.put_image.ensures ∙ ap (λ (x : List ℕ). image_of x c.args.density) is_record in
    image_overwritten c.args.space.now _ _ _ is_image (returns-clause-value c)
