use Rattle.command_line.proofs.Common.{refl, bench_table, draw_usage, drive_usage, explain_usage, follow_usage, generate_usage, judge_usage}
use Rattle.command_line.proofs.Common.{locate_usage, page_usage, schedule_usage}
use Rattle.command_line.proofs.AskableLemmas.{is_of}
use Rattle.command_line.proofs.read.line_of.Goals as goal

pub judge_line-requires : goal.judge_line-requires
judge_line-requires c = is_of bench_table judge_usage c.args.request c.in-judge.is refl c.requires.askable c.requires.described

pub locate_line-requires : goal.locate_line-requires
locate_line-requires c = is_of bench_table locate_usage c.args.request c.in-locate.is refl c.requires.askable c.requires.described

pub explain_line-requires : goal.explain_line-requires
explain_line-requires c = is_of bench_table explain_usage c.args.request c.in-explain.is refl c.requires.askable c.requires.described

pub draw_line-requires : goal.draw_line-requires
draw_line-requires c = is_of bench_table draw_usage c.args.request c.in-draw.is refl c.requires.askable c.requires.described

pub page_line-requires : goal.page_line-requires
page_line-requires c = is_of bench_table page_usage c.args.request c.in-page.is refl c.requires.askable c.requires.described

pub follow_line-requires : goal.follow_line-requires
follow_line-requires c = is_of bench_table follow_usage c.args.request c.in-follow.is refl c.requires.askable c.requires.described

pub generate_line-requires : goal.generate_line-requires
generate_line-requires c = is_of bench_table generate_usage c.args.request c.in-generate.is refl c.requires.askable c.requires.described

pub drive_line-requires : goal.drive_line-requires
drive_line-requires c = is_of bench_table drive_usage c.args.request c.in-drive.is refl c.requires.askable c.requires.described

pub schedule_line-requires : goal.schedule_line-requires
schedule_line-requires c = is_of bench_table schedule_usage c.args.request c.in-schedule.is refl c.requires.askable c.requires.described
