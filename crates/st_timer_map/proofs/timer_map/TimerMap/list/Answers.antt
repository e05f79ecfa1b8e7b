use Rattle.st_timer_map.proofs.timer_map.TimerMap.list.Goals as goal

pub returns : goal.returns
returns g c = rw (← c.self.view_is) (rw c.deref.ensures.value at c.list_rows.ensures)
