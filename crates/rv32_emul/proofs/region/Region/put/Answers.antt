use Rattle.std.proofs.Common.{◌≡◌, ◌-◌, ◌/◌, ◌*◌, ℕ, List, length, take, drop, ◌++◌, ap, sym, ◌∙◌, rules}
use Rattle.std.proofs.Math.Seq.{take-append_seam}
use Rattle.rv_isa.specs.Memory.{Region, overwritten, bytes_of}
use Rattle.rv32_emul.specs.Kept.{IsDecoded}
use Rattle.rv32_emul.proofs.Keeping.{put-again, put-beside}
use Rattle.rv32_emul.proofs.region.Region.put.Goals as goal

pub invariant_of-self : goal.invariant_of-self
invariant_of-self c =
    let r : Region = record { start = c.self.inside.start; bytes = c.self.inside.bytes.items; readable = c.self.inside.readable; writable = c.self.inside.writable; executable = c.self.inside.executable } in
    let bytes : List ℕ = take c.self.inside.bytes.len (c.write_number.new.bytes ++ drop (length c.write_number.new.bytes) c.self.inside.bytes.items) in
    let long : length c.write_number.new.bytes ≡ c.self.inside.bytes.len = c.write_number.auto.bytes ∙ c.deref_mut.ensures.len in
    let seam : bytes ≡ c.write_number.new.bytes = ap (λ (m : ℕ). take m (c.write_number.new.bytes ++ drop (length c.write_number.new.bytes) c.self.inside.bytes.items)) (sym long) ∙ take-append_seam c.write_number.new.bytes (drop (length c.write_number.new.bytes) c.self.inside.bytes.items) in
    let written : bytes ≡ overwritten r.bytes (c.args.address - r.start) (bytes_of c.args.size c.args.value) = seam ∙ c.write_number.ensures ∙ ap (λ (b : List ℕ). overwritten b (c.args.address - r.start) (bytes_of c.args.size c.args.value)) c.deref_mut.ensures.value in
    let again : IsDecoded c.decoded_word.result c.deref.result.now (4 * ((c.args.address - r.start) / 4)) = (c.decoded_word.ensures.decoded, c.decoded_word.ensures.in_range) in
    put-again r c.self.inside.code.items c.decoded_word.result c.args.address c.args.size c.args.value bytes c.self.invariant (rw (← c.self.view_is) at c.requires.there) c.requires.access written (search rules) (rw c.deref.ensures.value at again)

pub invariant_of-self-else-index-len : goal.invariant_of-self-else-index-len
invariant_of-self-else-index-len c =
    let r : Region = record { start = c.self.inside.start; bytes = c.self.inside.bytes.items; readable = c.self.inside.readable; writable = c.self.inside.writable; executable = c.self.inside.executable } in
    let bytes : List ℕ = take c.self.inside.bytes.len (c.write_number.new.bytes ++ drop (length c.write_number.new.bytes) c.self.inside.bytes.items) in
    let long : length c.write_number.new.bytes ≡ c.self.inside.bytes.len = c.write_number.auto.bytes ∙ c.deref_mut.ensures.len in
    let seam : bytes ≡ c.write_number.new.bytes = ap (λ (m : ℕ). take m (c.write_number.new.bytes ++ drop (length c.write_number.new.bytes) c.self.inside.bytes.items)) (sym long) ∙ take-append_seam c.write_number.new.bytes (drop (length c.write_number.new.bytes) c.self.inside.bytes.items) in
    let written : bytes ≡ overwritten r.bytes (c.args.address - r.start) (bytes_of c.args.size c.args.value) = seam ∙ c.write_number.ensures ∙ ap (λ (b : List ℕ). overwritten b (c.args.address - r.start) (bytes_of c.args.size c.args.value)) c.deref_mut.ensures.value in
    put-beside r c.self.inside.code.items c.args.address c.args.size c.args.value bytes c.self.invariant (rw (← c.self.view_is) at c.requires.there) c.requires.access written (search rules)
