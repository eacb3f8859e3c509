-- The bytes behind those on disk.
use Rattle.std.proofs.Common.{◌+◌, ◌++◌, take, drop, sym, ◌∙◌, ap, take-append-drop}
use Rattle.std.proofs.Math.Seq.{take-add}
use Rattle.append_log.proofs.memory_file.MemoryFile.crash.Goals as goal

pub returns : goal.returns
returns c =
    let file = c.args.self.now in
    let count = c.min.result in
    let left_is = c.in_ok-extend_from_slice.ensures.items in
    record {
      behind = take count (drop file.synced file.bytes.items);
      is =
          left_is ∙ (λ i. c.in_ok-left.ensures.items i ++ take (file.synced + count) (c.deref.ensures.value i))
          ∙ take-add file.synced count file.bytes.items ∙ ap (λ l. l ++ take count (drop file.synced file.bytes.items)) (sym file.on_disk);
      first_part = λ usable. (drop count (drop file.synced file.bytes.items), file.appended (file.failed ∙ usable) ∙ sym (take-append-drop count (drop file.synced file.bytes.items)));
    }
