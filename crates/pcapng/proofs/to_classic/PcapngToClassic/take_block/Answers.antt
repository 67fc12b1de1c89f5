use Rattle.std.proofs.Common.{◌∙◌, List, sym, ap, refl}
use Rattle.pcapng.specs.declared.interface.Interface.{Interface}
use Rattle.pcapng.specs.Classic.{step, content_taken}
use Rattle.pcapng.specs.Found.{found}
use Rattle.pcapng.specs.Plain.{plain_found}
use Rattle.pcapng.specs.Steps.{GoesOn}
use Rattle.pcapng.specs.Reader.{reading, Takes}
use Rattle.pcapng.proofs.ReadingLaws.{if_ok, taken_goes_on}
use Rattle.pcapng.proofs.to_classic.PcapngToClassic.take_block.Goals as goal

pub returns-then-is_plain-clause-goes_on : goal.returns-then-is_plain-clause-goes_on
returns-then-is_plain-clause-goes_on g c =
    let old = c.args.self.now in
    let new = c.take_plain.new.self in
    let octets = c.args.octets.now in
    let f = plain_found octets in
    let before = c.args.out.now.items in
    let now = c.take_plain.new.out.items in
    let is = ap (λ (l : List Interface). found old.section l octets) (sym c.as_slice.ensures.value) ∙ c.if-is_plain.ensures.found refl in
    if_ok c.take_plain.result (λ n. Takes (content_taken (reading old) octets f.endian f.length f.content) n before now old new)
    (λ n. GoesOn step (reading old) (reading new) octets c.args.is_last n before now)
    (λ n k. taken_goes_on old new f octets c.args.is_last n _ before now c.requires.blocks is (c.if-is_plain.ensures.fits refl) k)
    c.take_plain.ensures.taken
