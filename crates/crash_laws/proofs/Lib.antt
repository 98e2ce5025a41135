mod Crashed
mod OneRun
