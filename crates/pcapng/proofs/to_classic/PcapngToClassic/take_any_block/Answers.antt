use Rattle.std.proofs.Common.{◌≡◌, ◌∙◌, List, false, sym, ap}
use Rattle.pcapng.specs.declared.interface.Interface.{Interface}
use Rattle.pcapng.specs.Classic.{fails, content_taken}
use Rattle.pcapng.specs.Found.{found, is_short}
use Rattle.pcapng.specs.Classic.{step}
use Rattle.pcapng.specs.Steps.{GoesOn}
use Rattle.pcapng.specs.Reader.{reading, Takes}
use Rattle.pcapng.proofs.ReadingLaws.{if_ok, taken_goes_on, failed_goes_on, block_fails}
use Rattle.pcapng.proofs.to_classic.PcapngToClassic.take_any_block.Goals.{else-not-is_last-via-then-not-is_last+else-is_short, else-not-is_last-via-else-not-is_last}
use Rattle.pcapng.proofs.to_classic.PcapngToClassic.take_any_block.Goals as goal

pub returns-in-Ok-clause-goes_on : goal.returns-in-Ok-clause-goes_on
returns-in-Ok-clause-goes_on g c =
    let old = c.args.self.now in
    let new = c.take.new.self in
    let f = c.in-Ok.found in
    let octets = c.args.octets.now in
    let before = c.args.out.now.items in
    let now = c.take.new.out.items in
    let is = sym (c.in-Ok.ensures.found ∙ ap (λ (l : List Interface). found old.section l octets) c.as_slice.ensures.value) in
    if_ok c.take.result (λ n. Takes (content_taken (reading old) octets f.endian f.length f.content) n before now old new)
    (λ n. GoesOn step (reading old) (reading new) octets c.args.is_last n before now)
    (λ n k. taken_goes_on old new f octets c.args.is_last n _ before now c.requires.blocks is c.in-Ok.ensures.fits k)
    c.take.ensures.taken

pub returns-else-not-is_last-clause-goes_on : goal.returns-else-not-is_last-clause-goes_on
returns-else-not-is_last-clause-goes_on g c =
    let old = c.args.self.now in
    let new = c.fail.new.self in
    let kind = c.in-Err.kind in
    let octets = c.args.octets.now in
    let before = c.args.out.now.items in
    let now = c.fail.new.out.items in
    let is = sym (c.in-Err.ensures.found ∙ ap (λ (l : List Interface). found old.section l octets) c.as_slice.ensures.value) in
    let decided : c.args.is_last ≡ false → is_short kind ≡ false = elim c.else-not-is_last.branch [
      | else-not-is_last-via-then-not-is_last+else-is_short w ↦ λ no. sym w.is_short.ensures ∙ w.if-is_short.false
      | else-not-is_last-via-else-not-is_last w ↦ λ no. absurd cc
    ] in
    if_ok c.fail.result (λ n. Takes (fails (reading old) kind octets) n before now old new)
    (λ n. GoesOn step (reading old) (reading new) octets c.args.is_last n before now)
    (λ n k. failed_goes_on old new kind octets c.args.is_last n before now
    (λ later last. block_fails (reading old) kind octets later c.args.is_last c.requires.blocks is decided c.requires.some last) k)
    c.fail.ensures.taken
