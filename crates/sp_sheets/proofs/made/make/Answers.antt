use Rattle.sp_sheets.proofs.made.make.Goals as goal

pub returns : goal.returns
returns g c =
    let done = c.in_ok-numbered.ensures in
    record {
      made = record { layout = c.in_ok-layout.ensures; numbered = done.numbered };
      pages = done.pages;
      fills = done.fills;
      at_most = done.at_most;
      reads = done.reads;
    }
