use Rattle.std.proofs.Common.{ap, ◌∙◌, length, ◌+◌, ◌*◌, slice_index}
use Rattle.fixed_angle.specs.TableFile.{signed_at, long_at}
use Rattle.fixed_angle.proofs.File.{length-entries}
use Rattle.fixed_angle.proofs.tables.PlayTables.read.Goals as goal

pub invariant_of-result : goal.invariant_of-result
invariant_of-result c =
    let bytes = c.args.bytes.now in
    record {
      tables = record {
        sines = ap length c.in_ok-signed_entries.ensures ∙ length-entries (λ i. signed_at bytes (8 + 4 * i)) 10240;
        arcs = ap length c.in_ok-long_entries.ensures ∙ length-entries (λ i. long_at bytes (40968 + 4 * i)) 2049;
        draws = ap length c.in_ok-byte_entries.ensures ∙ length-entries (λ i. slice_index bytes (49164 + i)) 256;
        kinds = c.in_ok-kinds.ensures.new;
      };
      same = rw c.deref.ensures.value at c.in_ok-by_number.ensures.same;
      rising = c.in_ok-by_number.ensures.rising;
    }
