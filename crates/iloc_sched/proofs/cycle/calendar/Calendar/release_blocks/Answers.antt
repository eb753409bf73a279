use Rattle.std.proofs.Common.{◌≡◌, subst, arith}
use Rattle.iloc_sched.proofs.Ranks.Sets.{none_released, one_released, all_released, IsReleased}
use Rattle.iloc_sched.proofs.Ranks.Calendars.{room_kept}
use Rattle.iloc_sched.proofs.cycle.calendar.Calendar.release_blocks.Goals as goal

pub loop-block-init : goal.loop-block-init
loop-block-init c = grind (arith, none_released, one_released)

pub release_block-requires-in-loop-block : goal.release_block-requires-in-loop-block
release_block-requires-in-loop-block c = grind (arith, room_kept)

pub loop-block-preserved : goal.loop-block-preserved
loop-block-preserved c =
    let r = c.release_block-in-loop-block in
    one_released c.args.self.now c.loop-block.self r.new.self c.args.bucket c.loop-block.block c.requires.bucket c.loop-block.invariant
    r.ensures.released r.ensures.emptied r.ensures.others r.ensures.room

pub returns-clause-releases : goal.returns-clause-releases
returns-clause-releases c =
    let at : c.loop-block.block ≡ c.args.self.now.blocks = omega arith in
    all_released c.args.self.now c.loop-block.self c.args.bucket c.requires.bucket c.requires.some
    (subst (λ n. IsReleased c.args.self.now c.loop-block.self c.args.bucket n) at c.loop-block.invariant)

pub returns-clause-room : goal.returns-clause-room
returns-clause-room c = c.loop-block.invariant.room
